use Rattle.std.proofs.Common.{◌≡◌, ◌<◌, ◌++◌, ◌∷◌, [], ◌⊎◌, ℕ, List, Bool, length, arith, refl, sym, ◌∙◌, subst, Contains}
use Rattle.std.specs.List.{All}
use Rattle.std.proofs.lemmas.List.Elements.{Contains-push}
use Rattle.rev_ranks.specs.Graph.{graph_of, successors_of}
use Rattle.rev_ranks.specs.Sets.{IsMarked, IsMarking}
use Rattle.rev_ranks.specs.Walks.{IsNumbering}
use Rattle.rev_ranks.proofs.Ways.{successors_are, successors_inside}
use Rattle.rev_ranks.proofs.Marks.{marked_within}
use Rattle.rev_ranks.proofs.NumberLemmas.{numbering-starts, numbering-goes}
use Rattle.rev_ranks.proofs.components.number_from.Goals as goal

marking_from : {nodes nodes' open_before open_before' open_after : List ℕ} {before before' after : List Bool} → nodes' ≡ nodes → before' ≡ before → open_before' ≡ open_before → IsMarking nodes before open_before after open_after → IsMarking nodes' before' open_before' after open_after
marking_from e f g h = rw (e, f, g) h

pub loop-next-init : goal.loop-next-init
loop-next-init c =
    numbering-starts (graph_of c.args.successors.now) c.args.root c.args.number c.args.marks.now.items c.args.numbers.now.items c.mark_each.new.marks.items c.mark_each.new.open_nodes.items
    (marking_from refl refl (sym c.new-open_nodes.ensures.items) c.in_ok-mark_each.ensures.marking)
    (λ s h. subst (λ (xs : List ℕ). Contains xs s ⊎ (IsMarked c.args.marks.now.items s → ⊥)) c.new-open_nodes.ensures.items (c.in_ok-mark_each.ensures.opens s h))

pub index_mut-requires : goal.index_mut-requires
index_mut-requires c =
    let graph = graph_of c.args.successors.now in
    let next = c.in-Some.next in
    let rest = c.pop.new.self.items in
    let open_at : IsNumbering graph c.args.root c.args.number c.args.marks.now.items c.args.numbers.now.items c.loop-next.marks.items c.loop-next.numbers.items (rest ++ next ∷ []) =
    subst (IsNumbering graph c.args.root c.args.number c.args.marks.now.items c.args.numbers.now.items c.loop-next.marks.items c.loop-next.numbers.items) c.in-Some.ensures.items c.loop-next.invariant in
    let in-marks = marked_within c.loop-next.marks.items next (open_at.open_marked next (Contains-push rest next)) in
    let within : next < length c.args.successors.now = omega (arith, in-marks, open_at.each_mark, c.requires.each_mark, c.args.marks.now.ok.0) in
    omega (arith, within, open_at.each_number, c.requires.each_number, c.args.numbers.now.ok.0, c.loop-next.numbers.ok.0)

pub bounds-successors-next : goal.bounds-successors-next
bounds-successors-next c =
    let graph = graph_of c.args.successors.now in
    let next = c.in-Some.next in
    let rest = c.pop.new.self.items in
    let open_at : IsNumbering graph c.args.root c.args.number c.args.marks.now.items c.args.numbers.now.items c.loop-next.marks.items c.loop-next.numbers.items (rest ++ next ∷ []) =
    subst (IsNumbering graph c.args.root c.args.number c.args.marks.now.items c.args.numbers.now.items c.loop-next.marks.items c.loop-next.numbers.items) c.in-Some.ensures.items c.loop-next.invariant in
    let in-marks = marked_within c.loop-next.marks.items next (open_at.open_marked next (Contains-push rest next)) in
    let within : next < length c.args.successors.now = omega (arith, in-marks, open_at.each_mark, c.requires.each_mark, c.args.marks.now.ok.0) in
    within

pub mark_each-requires-in-Some : goal.mark_each-requires-in-Some
mark_each-requires-in-Some c =
    let graph = graph_of c.args.successors.now in
    let next = c.in-Some.next in
    let rest = c.pop.new.self.items in
    let open_at : IsNumbering graph c.args.root c.args.number c.args.marks.now.items c.args.numbers.now.items c.loop-next.marks.items c.loop-next.numbers.items (rest ++ next ∷ []) =
    subst (IsNumbering graph c.args.root c.args.number c.args.marks.now.items c.args.numbers.now.items c.loop-next.marks.items c.loop-next.numbers.items) c.in-Some.ensures.items c.loop-next.invariant in
    let in-marks = marked_within c.loop-next.marks.items next (open_at.open_marked next (Contains-push rest next)) in
    let within : next < length c.args.successors.now = omega (arith, in-marks, open_at.each_mark, c.requires.each_mark, c.args.marks.now.ok.0) in
    let below : All (λ s. s < length c.args.successors.now) c.deref.result.now =
    subst (λ (xs : List ℕ). All (λ s. s < length c.args.successors.now) xs) (sym c.deref.ensures.value) (successors_inside c.args.successors.now next c.index-successors-next.result c.requires.inside within c.index-successors-next.is) in
    λ k d h. omega (arith, below k d h, open_at.each_mark, c.requires.each_mark, c.args.marks.now.ok.0, c.loop-next.marks.ok.0)

pub loop-next-preserved : goal.loop-next-preserved
loop-next-preserved c =
    let graph = graph_of c.args.successors.now in
    let next = c.in-Some.next in
    let rest = c.pop.new.self.items in
    let open_at : IsNumbering graph c.args.root c.args.number c.args.marks.now.items c.args.numbers.now.items c.loop-next.marks.items c.loop-next.numbers.items (rest ++ next ∷ []) =
    subst (IsNumbering graph c.args.root c.args.number c.args.marks.now.items c.args.numbers.now.items c.loop-next.marks.items c.loop-next.numbers.items) c.in-Some.ensures.items c.loop-next.invariant in
    let in-marks = marked_within c.loop-next.marks.items next (open_at.open_marked next (Contains-push rest next)) in
    let within : next < length c.args.successors.now = omega (arith, in-marks, open_at.each_mark, c.requires.each_mark, c.args.marks.now.ok.0) in
    let in-numbers : next < length c.loop-next.numbers.items = omega (arith, within, open_at.each_number, c.requires.each_number, c.args.numbers.now.ok.0) in
    let lists : successors_of graph next ≡ c.deref.result.now = successors_are c.args.successors.now next c.index-successors-next.result within c.index-successors-next.is ∙ sym c.deref.ensures.value in
    numbering-goes graph c.args.root c.args.number c.args.marks.now.items c.args.numbers.now.items c.loop-next.marks.items c.loop-next.numbers.items rest next _ _ in-numbers open_at c.requires.back
    (marking_from lists refl refl c.in_ok-mark_each-2.ensures.marking) c.in_ok-mark_each-2.ensures.opens
