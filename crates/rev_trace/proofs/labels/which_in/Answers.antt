use Rattle.std.proofs.Common.{◌≡◌, ◌≤◌, ℕ, List, [], ◌∷◌, length, Err, refl, arith}
use Rattle.rev_fields.specs.declared.faults.FaultKind.TheVariants.{Number}
use Rattle.rev_fields.specs.Parts.{slices_of}
use Rattle.rev_fields.proofs.SliceLemmas.{length-slices_of}
use Rattle.rev_trace.specs.Commands.{which_in}
use Rattle.rev_trace.proofs.labels.which_in.Goals as goal

-- more than one colon
which_in-long : (parts : List (List ℕ)) → 3 ≤ length parts → which_in parts ≡ Err Number
which_in-long [] long = absurd (omega arith)
which_in-long (a ∷ []) long = absurd (omega arith)
which_in-long (a ∷ b ∷ []) long = absurd (omega arith)
which_in-long (a ∷ b ∷ c ∷ rest) long = refl

pub returns-in_default : goal.returns-in_default
returns-in_default c =
    which_in-long (slices_of c.args.parts.now) (omega (arith, c.in_default.len_at_least, length-slices_of c.args.parts.now))
