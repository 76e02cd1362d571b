use Rattle.std.proofs.Common.{◌≡◌, length}
use Rattle.rev_paths.specs.Kept.{plain_from, is_plain}
use Rattle.rev_paths.proofs.canonical.is_plain.Given as goal

abbrev pub invariant-loop-b : goal.invariant-loop-b
invariant-loop-b l = plain_from l.at_front l.rest ≡ is_plain l.path

abbrev pub decreases-loop-b : goal.decreases-loop-b
decreases-loop-b l = length l.rest
