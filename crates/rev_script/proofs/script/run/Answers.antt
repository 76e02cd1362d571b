use Rattle.std.proofs.Common.{◌≡◌, ◌≤◌, ℕ, List, [], ◌∷◌, length, Err, refl, arith}
use Rattle.rev_fields.specs.declared.faults.FaultKind.TheVariants.{Syntax}
use Rattle.rev_fields.specs.Parts.{vectors_of}
use Rattle.rev_fields.proofs.SliceLemmas.{length-vectors_of}
use Rattle.rev_script.specs.Scripts.{run_of}
use Rattle.rev_script.proofs.script.run.Goals as goal

-- more than one field after the word
run_of-long : (texts : List (List ℕ)) → 2 ≤ length texts → run_of texts ≡ Err Syntax
run_of-long [] long = absurd (omega arith)
run_of-long (a ∷ []) long = absurd (omega arith)
run_of-long (a ∷ b ∷ rest) long = refl

pub returns-in_default : goal.returns-in_default
returns-in_default c = run_of-long (vectors_of c.args.texts.now) (omega (arith, c.in_default.len_at_least, length-vectors_of c.args.texts.now))
