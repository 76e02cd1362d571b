use Rattle.std.proofs.Common.{◌≡◌, ◌≤◌, ℕ, List, [], ◌∷◌, length, Err, refl, arith}
use Rattle.rev_fields.specs.declared.faults.FaultKind.TheVariants.{Syntax}
use Rattle.rev_fields.specs.Parts.{lent_of}
use Rattle.rev_fields.proofs.SliceLemmas.{length-lent_of}
use Rattle.rev_trace.specs.Commands.{start_of}
use Rattle.rev_trace.proofs.events.started.Goals as goal

-- more than one field after the job
start_of-long : (out job : List ℕ) (rest : List (List ℕ)) → 2 ≤ length rest → start_of (out ∷ job ∷ rest) ≡ Err Syntax
start_of-long out job [] long = absurd (omega arith)
start_of-long out job (a ∷ []) long = absurd (omega arith)
start_of-long out job (a ∷ b ∷ rest) long = refl

pub returns-in_default : goal.returns-in_default
returns-in_default c =
    start_of-long c.args.out.now c.args.job.now (lent_of c.args.rest.now) (omega (arith, c.in_default.len_at_least, length-lent_of c.args.rest.now))
