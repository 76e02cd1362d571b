use Rattle.std.proofs.Common.{◌≡◌, ◌<◌, List, ℕ, [], get_or, length, map, sym, ap, ◌∙◌, arith}
use Rattle.std.specs.Borrow.{Bor}
use Rattle.std.specs.Global.{Vec}
use Rattle.std.proofs.lemmas.List.{get_or-map}
use Rattle.rev_unlisted.specs.Found.{names_of}
use Rattle.rev_unlisted.specs.Joined.{chosen_at, chosen_of}
use Rattle.rev_unlisted.proofs.FollowLemmas.{names-more}
use Rattle.rev_unlisted.proofs.joining.joined_lists.Goals as goal

pub loop-edge-preserved : goal.loop-edge-preserved
loop-edge-preserved c =
    let edge = c.loop-edge.edge in
    let within : c.loop-edge.edge < length c.args.lists.now = omega (arith, c.loop-edge-test.true) in
    let inside : c.loop-edge.edge < length c.args.extended.now = omega (arith, c.loop-edge-test.true, c.requires) in
    let list : c.index-lists-edge.result.now ≡ get_or (names_of c.args.lists.now) c.loop-edge.edge [] =
    ap (λ (s : Bor (List (List ℕ))). s.now) c.index-lists-edge.is ∙ sym (get_or-map (λ (s : Bor (List (List ℕ))). s.now) c.args.lists.now edge c.index-lists-edge.result [] within) in
    let extended : c.as_slice.result.now ≡ get_or (map (λ (v : Vec (List ℕ)). v.items) c.args.extended.now) c.loop-edge.edge [] =
    c.as_slice.ensures.value ∙ ap (λ (v : Vec (List ℕ)). v.items) c.index-extended-edge.is
    ∙ sym (get_or-map (λ (v : Vec (List ℕ)). v.items) c.args.extended.now edge c.index-extended-edge.result [] inside) in
    names-more (chosen_at (names_of c.args.lists.now) (map (λ (v : Vec (List ℕ)). v.items) c.args.extended.now)) c.loop-edge.all.items c.push.new.self.items
    c.chosen.result edge c.loop-edge.invariant c.in_ok-push.ensures.items (c.chosen.ensures ∙ (λ i. chosen_of (list i) (extended i)))
