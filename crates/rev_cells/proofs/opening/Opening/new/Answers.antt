use Rattle.std.proofs.Common.{arith}
use Rattle.rev_cells.proofs.OpeningLemmas.{no_record}
use Rattle.rev_cells.proofs.opening.Opening.new.Goals as goal

pub invariant_of-result : goal.invariant_of-result
invariant_of-result c = no_record c.args.jobs c.with_jobs.result c.with_jobs.ensures (omega arith) (omega arith)
