use Rattle.std.proofs.Common.{ℕ, Contains, ◌<◌, ◌≤◌, get_or}
use Rattle.rev_workers.proofs.halves.least_of.Given as goal

abbrev pub invariant-loop-number : goal.invariant-loop-number
invariant-loop-number l =
    record { among : Contains l.numbers l.least; least : (k : ℕ) → k < l.number-index → l.least ≤ get_or l.numbers k 0 }
