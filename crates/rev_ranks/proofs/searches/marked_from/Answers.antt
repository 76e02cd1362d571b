use Rattle.std.proofs.Common.{◌≡◌, ◌<◌, ◌++◌, ◌∷◌, [], ℕ, List, Bool, false, replicate, length, arith, rules, refl, sym, ap, ◌∙◌, subst}
use Rattle.std.specs.List.{All}
use Rattle.rev_ranks.specs.Graph.{graph_of, successors_of}
use Rattle.rev_ranks.specs.Sets.{IsMarking, IsSearch}
use Rattle.rev_ranks.proofs.Ways.{successors_are, successors_inside, nodes_are}
use Rattle.rev_ranks.proofs.ReachableLemmas.{search_starts, search_goes, search_next, search_ends}
use Rattle.rev_ranks.proofs.searches.marked_from.Goals as goal

marking_from : {nodes nodes' open_before open_before' open_after : List ℕ} {before before' after : List Bool} → nodes' ≡ nodes → before' ≡ before → open_before' ≡ open_before → IsMarking nodes before open_before after open_after → IsMarking nodes' before' open_before' after open_after
marking_from e f g h = rw (e, f, g) h

pub loop-next-init : goal.loop-next-init
loop-next-init c =
    let graph : List (List ℕ) = graph_of c.args.successors.now in
    let fresh : c.in_ok-marks.marks.items ≡ replicate (length c.args.successors.now) false = search rules in
    search_starts graph c.args.roots.now c.mark_each.new.marks.items c.mark_each.new.open_nodes.items
    (marking_from refl (ap (λ n. replicate n false) (nodes_are c.args.successors.now) ∙ sym fresh) (sym c.new-open_nodes.ensures.items) c.in_ok-mark_each.ensures.marking)

pub mark_each-requires-in-Some : goal.mark_each-requires-in-Some
mark_each-requires-in-Some c =
    let open_at : IsSearch (graph_of c.args.successors.now) c.args.roots.now c.loop-next.marks.items (c.pop.new.self.items ++ c.in-Some.next ∷ []) = subst (IsSearch (graph_of c.args.successors.now) c.args.roots.now c.loop-next.marks.items) c.in-Some.ensures.items c.loop-next.invariant in
    let within : c.in-Some.next < length c.args.successors.now = omega (arith, nodes_are c.args.successors.now, search_next _ _ _ _ _ open_at) in
    let below : All (λ s. s < length c.args.successors.now) c.deref.result.now = subst (λ (xs : List ℕ). All (λ s. s < length c.args.successors.now) xs) (sym c.deref.ensures.value) (successors_inside c.args.successors.now c.in-Some.next c.index-successors-next.result c.requires.inside within c.index-successors-next.is) in
    λ k d h. omega (arith, below k d h, nodes_are c.args.successors.now, c.loop-next.invariant.length_is, c.loop-next.marks.ok.0)

pub loop-next-preserved : goal.loop-next-preserved
loop-next-preserved c =
    let open_at : IsSearch (graph_of c.args.successors.now) c.args.roots.now c.loop-next.marks.items (c.pop.new.self.items ++ c.in-Some.next ∷ []) = subst (IsSearch (graph_of c.args.successors.now) c.args.roots.now c.loop-next.marks.items) c.in-Some.ensures.items c.loop-next.invariant in
    let within : c.in-Some.next < length c.args.successors.now = omega (arith, nodes_are c.args.successors.now, search_next _ _ _ _ _ open_at) in
    let lists : successors_of (graph_of c.args.successors.now) c.in-Some.next ≡ c.deref.result.now = successors_are c.args.successors.now c.in-Some.next c.index-successors-next.result within c.index-successors-next.is ∙ sym c.deref.ensures.value in
    search_goes _ _ _ _ _ _ _ open_at (marking_from lists refl refl c.in_ok-mark_each-2.ensures.marking)

pub returns : goal.returns
returns c =
    let none : c.loop-next.open_nodes.items ≡ [] = search rules in
    search_ends (graph_of c.args.successors.now) c.args.roots.now c.loop-next.marks.items (subst (IsSearch (graph_of c.args.successors.now) c.args.roots.now c.loop-next.marks.items) none c.loop-next.invariant)
