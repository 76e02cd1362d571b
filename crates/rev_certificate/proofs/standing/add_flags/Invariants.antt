use Rattle.std.proofs.Common.{◌≡◌, ◌++◌}
use Rattle.rev_certificate.specs.Obstacles.{of_flags}
use Rattle.rev_certificate.proofs.standing.add_flags.Given as goal

abbrev pub invariant-loop-flag : goal.invariant-loop-flag
invariant-loop-flag l = l.obstacles.items ≡ l.initial.obstacles.items ++ of_flags l.command l.flag
