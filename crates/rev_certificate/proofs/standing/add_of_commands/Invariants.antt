use Rattle.std.proofs.Common.{◌≡◌, ◌++◌}
use Rattle.std.specs.List.{flat_map, range_with_len}
use Rattle.rev_certificate.specs.Obstacles.{of_command}
use Rattle.rev_certificate.proofs.standing.add_of_commands.Given as goal

abbrev pub invariant-loop-number : goal.invariant-loop-number
invariant-loop-number l = l.obstacles.items ≡ l.initial.obstacles.items ++ flat_map (of_command l.observation) (range_with_len 0 l.number)
