use Rattle.std.proofs.Common.{ℕ, ◌<◌, get_or}
use Rattle.rev_conflicts.proofs.QuietLemmas.{IsQuietOne}
use Rattle.rev_conflicts.proofs.quiet.is_quiet.Given as goal

abbrev pub invariant-loop-command : goal.invariant-loop-command
invariant-loop-command l = (k : ℕ) → k < l.command-index → IsQuietOne l.graph.manifest.builds l.edges l.user (get_or l.commands k 0)
