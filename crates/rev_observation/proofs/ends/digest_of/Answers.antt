use Rattle.std.proofs.Common.{◌++◌, ◌∷◌, [], ℕ, List, get_or, take, ap, ◌∙◌, sym, subst}
use Rattle.std.specs.List.{flat_map}
use Rattle.sha2.specs.Hashers.{Holds256}
use Rattle.rev_fields.specs.Parts.{slices_of}
use Rattle.rev_fields.proofs.SliceLemmas.{at-slices_of, within-slices_of}
use Rattle.rev_observation.specs.Ends.{ended}
use Rattle.rev_observation.proofs.EndLemmas.{ended-more}
use Rattle.rev_observation.proofs.ends.digest_of.Goals as goal

pub loop-line-preserved : goal.loop-line-preserved
loop-line-preserved c =
    let lines = c.args.lines.now in
    let i = c.loop-line.line-index in
    let before = flat_map ended (take i (slices_of lines)) in
    let line = (get_or lines i (record { ref_ptr = (0, 0); now = [] })).now in
    let P : List ℕ → Type 0 = λ m. Holds256 c.update-in-loop-line.new.self m in
    let more = ended-more (slices_of lines) i (within-slices_of lines i c.loop-line-test.true) ∙ ap (λ l. (before ++ l) ++ 10 ∷ []) (at-slices_of lines i) in
    subst P (sym more) (c.update-in-loop-line.ensures (before ++ line) (c.update.ensures before c.loop-line.invariant))
