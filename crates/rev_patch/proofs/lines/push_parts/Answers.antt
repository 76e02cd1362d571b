use Rattle.std.proofs.Common.{◌+◌, ◌++◌, drop, refl, ap, ◌∙◌}
use Rattle.rev_fields.specs.Parts.{slices_of}
use Rattle.rev_patch.specs.Lines.{lines_of_parts}
use Rattle.rev_patch.proofs.LineLemmas.{parts-at}
use Rattle.rev_patch.proofs.lines.push_parts.Goals as goal

pub loop-place-preserved : goal.loop-place-preserved
loop-place-preserved c =
    let parts = c.args.parts.now in
    let place = c.loop-place.place in
    ap (λ lines. lines ++ lines_of_parts (slices_of (drop (place + 1) parts))) c.in_ok-push_part.ensures
    ∙ parts-at _ parts place _ _ c.loop-place-test.true refl ∙ c.loop-place.invariant
