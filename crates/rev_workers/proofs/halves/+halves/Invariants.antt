use Rattle.std.proofs.Common.{◌+◌, ◌-◌, ◌*◌, vec_len}
use Rattle.rev_workers.proofs.halves.+halves.Given as goal

abbrev pub decreases-run_both-scope-spawn_with : goal.decreases-run_both-scope-spawn_with
decreases-run_both-scope-spawn_with g l = 4 * vec_len l.later + 1

abbrev pub decreases-run_both-scope : goal.decreases-run_both-scope
decreases-run_both-scope g l = 4 * (vec_len l.jobs + vec_len l.later) - 2

abbrev pub decreases-run_both : goal.decreases-run_both
decreases-run_both g l = 4 * (vec_len l.jobs + vec_len l.later) - 1

abbrev pub decreases-run_halves : goal.decreases-run_halves
decreases-run_halves g l = 4 * vec_len l.jobs
