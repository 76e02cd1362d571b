use Rattle.std.proofs.Common.{◌≡◌, ℕ, List, false, drop, length, sym, ap, ◌∙◌, arith}
use Rattle.rev_fields.specs.Parts.{slices_of}
use Rattle.rev_fields.proofs.SliceLemmas.{past-slices_of, slices_of-drop, within-slices_of}
use Rattle.rev_filters.specs.Patterns.{begins}
use Rattle.rev_filters.proofs.RowLemmas.{begins-short}
use Rattle.rev_filters.proofs.matching.begins.Goals as goal

pub returns-then-place-components : goal.returns-then-place-components
returns-then-place-components c =
    let parts = c.args.parts.now in
    let components = c.args.components.now in
    let n = c.loop-place.place in
    sym (c.loop-place.invariant.same ∙ ap (λ (ps : List (List ℕ)). begins ps (slices_of (drop n components))) (slices_of-drop n parts) ∙ ap (begins (drop n (slices_of parts))) (slices_of-drop n components)
    ∙ begins-short (slices_of parts) (slices_of components) n (within-slices_of parts n c.loop-place-test.true) (past-slices_of components n c.if-place-components.true))
