use Rattle.std.proofs.Common.{◌≡◌, ◌==◌, not, length}
use Rattle.std.specs.Prelude.{filter}
use Rattle.rev_named.specs.Named.{ends_of, last_or, last_part}
use Rattle.rev_named.proofs.components.last_part.Given as goal

abbrev pub invariant-loop-byte : goal.invariant-loop-byte
invariant-loop-byte l = last_or l.last (filter (λ end. not (length end == 0)) (ends_of l.rest)) ≡ last_part l.path

abbrev pub decreases-loop-byte : goal.decreases-loop-byte
decreases-loop-byte l = length l.rest
