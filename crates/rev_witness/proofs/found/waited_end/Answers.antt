use Rattle.std.proofs.Common.{◌≡◌, ◌<◌, ◌∙◌, ℕ, List, Contains, ap, arith, get_or, length, refl, subst, sym, true≢false}
use Rattle.std.specs.Global.{Vec}
use Rattle.std.specs.List.{All}
use Rattle.rev_history.specs.Timeline.{state_at}
use Rattle.rev_ranks.proofs.Ways.{nodes_are}
use Rattle.rev_witness.specs.Progress.{GoesOn, IsFree}
use Rattle.rev_witness.proofs.ProgressLemmas.{IsBelow, goes-all, goes-list, goes-none-below, list-free}
use Rattle.rev_witness.proofs.found.waited_end.Goals as goal

pub loop-edges-init : goal.loop-edges-init
loop-edges-init c = record {
  began = λ manifest opening began. began;
  goes = λ opening way. goes-none-below c.args.graph.now c.edges-edges.ensures.graph opening c.args.edge c.args.history.now.timeline way;
}

-- the list of a rank: c.edges-item is read at c.loop-edges.edges-index of c.deref-edges-items, which is c.in_ok-ranks.ranks.items
pub loop-edges-preserved : goal.loop-edges-preserved
loop-edges-preserved c = record {
  began = λ manifest opening began. c.in_ok-all_end.ensures.began manifest opening (c.loop-edges.invariant.began manifest opening began);
  goes = λ opening way.
      let graph = c.args.graph.now in
      let is = c.edges-edges.ensures.graph in
      let items = c.in_ok-ranks.ranks.items in
      let i = c.loop-edges.edges-index in
      let v = c.edges-item.result in
      let t = c.args.history.now.timeline in
      let u = c.loop-edges.history.timeline in
      let w = c.all_end.new.history.timeline in
      let within : c.loop-edges.edges-index < length c.in_ok-ranks.ranks.items = subst (λ (xs : List (Vec ℕ)). i < length xs) c.deref-edges-items.ensures.value c.loop-edges-test.true in
      let at : c.edges-item.result ≡ get_or c.in_ok-ranks.ranks.items c.loop-edges.edges-index c.edges-item.result =
      c.edges-item.is ∙ ap (λ (xs : List (Vec ℕ)). get_or xs i v) c.deref-edges-items.ensures.value in
      let before = c.loop-edges.invariant.goes opening way in
      let free = subst (λ xs. All (IsFree graph.manifest.builds (state_at u)) xs) (sym c.deref.ensures.value) (list-free graph is opening c.args.edge items c.in_ok-ranks.ensures.lists i v within at t u before) in
      let went = c.in_ok-all_end.ensures.goes opening before.under_way free in
      goes-list graph is opening c.args.edge items c.in_ok-ranks.ensures.lists i v within at t u before w (subst (λ xs. GoesOn graph.manifest opening (Contains xs) u w) c.deref.ensures.value went.1);
}

pub returns-then-not-branch-clause-goes : goal.returns-then-not-branch-clause-goes
returns-then-not-branch-clause-goes c = λ opening way.
    let graph = c.args.graph.now in
    let is = c.edges-edges.ensures.graph in
    let items = c.in_ok-ranks.ranks.items in
    let i = c.loop-edges.edges-index in
    let v = c.edges-item.result in
    let t = c.args.history.now.timeline in
    let u = c.loop-edges.history.timeline in
    let within : c.loop-edges.edges-index < length c.in_ok-ranks.ranks.items = subst (λ (xs : List (Vec ℕ)). i < length xs) c.deref-edges-items.ensures.value c.loop-edges-test.true in
    let at : c.edges-item.result ≡ get_or c.in_ok-ranks.ranks.items c.loop-edges.edges-index c.edges-item.result =
    c.edges-item.is ∙ ap (λ (xs : List (Vec ℕ)). get_or xs i v) c.deref-edges-items.ensures.value in
    let before = c.loop-edges.invariant.goes opening way in
    let free = subst (λ xs. All (IsFree graph.manifest.builds (state_at u)) xs) (sym c.deref.ensures.value) (list-free graph is opening c.args.edge items c.in_ok-ranks.ensures.lists i v within at t u before) in
    absurd (true≢false (sym (c.in_ok-all_end.ensures.goes opening before.under_way free).0 ∙ c.if-not-branch.true))

pub returns-clause-goes : goal.returns-clause-goes
returns-clause-goes c = λ opening way.
    let graph = c.args.graph.now in
    let all : c.loop-edges.edges-index ≡ length c.args.graph.now.manifest.builds =
    omega (arith, c.loop-edges-test.false, c.loop-edges.auto.edges-index-end, ap (λ (xs : List (Vec ℕ)). length xs) c.deref-edges-items.ensures.value, nodes_are c.in_ok-ranks.ranks.items, c.in_ok-ranks.ensures.lists.each) in (
      refl,
      goes-all graph c.edges-edges.ensures.graph opening c.args.edge c.args.history.now.timeline c.loop-edges.history.timeline
          (subst (λ n. GoesOn graph.manifest opening (IsBelow graph c.args.edge n) c.args.history.now.timeline c.loop-edges.history.timeline) all (c.loop-edges.invariant.goes opening way)),
    )
