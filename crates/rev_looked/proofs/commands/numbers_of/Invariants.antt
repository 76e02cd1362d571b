use Rattle.std.proofs.Common.{◌≡◌, ℕ, ◌-◌, ◌<◌, None, drop, get_or, length}
use Rattle.rev_looked.specs.Commands.{number_from}
use Rattle.rev_looked.proofs.commands.numbers_of.Given as goal

-- the commands from the last one on
abbrev pub invariant-loop-passed : goal.invariant-loop-passed
invariant-loop-passed l =
    (length l.numbers.items ≡ l.fn.count)
    × ((edge : ℕ) → edge < l.fn.count → get_or l.numbers.items edge None
    ≡ number_from (length l.edges - l.passed) (drop (length l.edges - l.passed) l.edges) edge)
