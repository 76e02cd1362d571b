use Rattle.std.proofs.Common.{◌≡◌, ℕ, ◌+◌, ◌-◌, ◌<◌, ◌≤◌, length, set, refl, subst, arith}
use Rattle.std.specs.Global.{Vec}
use Rattle.std.proofs.lemmas.List.{length-map}
use Rattle.rev_ranks.specs.Graph.{graph_of}
use Rattle.rev_conflicts.proofs.QuietLemmas.{AreNextsFrom, next-of, nexts-all, nexts-more, nexts-start}
use Rattle.rev_conflicts.proofs.nexts.nexts.Goals as goal

pub loop-left-init : goal.loop-left-init
loop-left-init c =
    nexts-start c.args.lists.now c.in_ok-nexts.nexts.items (length c.args.lists.now) refl (omega (arith, c.in_ok-nexts.ensures.len, c.in_ok-nexts.nexts.ok.0))

pub loop-left-preserved : goal.loop-left-preserved
loop-left-preserved c =
    let lists = c.args.lists.now in
    let nexts = c.loop-left.nexts.items in
    let left : ℕ = c.loop-left.left - 1 in
    let back : c.loop-left.left ≡ (c.loop-left.left - 1) + 1 = omega (arith, c.loop-left-test.true) in
    let before = subst (AreNextsFrom (graph_of c.args.lists.now) c.loop-left.nexts.items) back c.loop-left.invariant in
    let many : c.loop-left.left ≤ length (graph_of c.args.lists.now) = c.loop-left.invariant.within_left in
    let inside : c.loop-left.left - 1 < length c.args.lists.now = omega (arith, c.loop-left-test.true, many, length-map c.args.lists.now (λ (v : Vec ℕ). v.items)) in
    nexts-more (graph_of lists) nexts (set nexts left c.next_from-next.result) left c.next_from-next.result before refl
    (next-of lists nexts left c.next_from-next.result c.index.result.now c.index-lists-left.result c.deref.result.now inside before c.index-lists-left.is c.deref.ensures.value c.index.ensures c.next_from-next.ensures)

pub returns : goal.returns
returns c = nexts-all (graph_of c.args.lists.now) c.loop-left.nexts.items c.loop-left.left (omega (arith, c.loop-left-test.false)) c.loop-left.invariant
