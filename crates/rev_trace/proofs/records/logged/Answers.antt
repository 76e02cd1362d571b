use Rattle.std.proofs.Common.{◌≡◌, ◌≤◌, ℕ, List, [], ◌∷◌, length, Err, refl, arith}
use Rattle.rev_fields.specs.declared.faults.FaultKind.TheVariants.{Syntax}
use Rattle.rev_fields.specs.Parts.{lent_of}
use Rattle.rev_fields.proofs.SliceLemmas.{length-lent_of}
use Rattle.rev_trace.specs.Records.{built_of}
use Rattle.rev_trace.proofs.records.logged.Goals as goal

-- more than one field after the stamp
built_of-long : (text stamp : List ℕ) (rest : List (List ℕ)) → 2 ≤ length rest → built_of (text ∷ stamp ∷ rest) ≡ Err Syntax
built_of-long text stamp [] long = absurd (omega arith)
built_of-long text stamp (a ∷ []) long = absurd (omega arith)
built_of-long text stamp (a ∷ b ∷ rest) long = refl

pub returns-in_default : goal.returns-in_default
returns-in_default c =
    built_of-long c.args.text.now c.args.stamp.now (lent_of c.args.rest.now) (omega (arith, c.in_default.len_at_least, length-lent_of c.args.rest.now))
