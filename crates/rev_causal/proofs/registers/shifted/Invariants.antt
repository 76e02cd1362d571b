use Rattle.std.proofs.Common.{◌≡◌}
use Rattle.rev_causal.specs.Registers.{shifted}
use Rattle.rev_causal.proofs.registers.shifted.Given as goal

abbrev pub invariant-loop-register : goal.invariant-loop-register
invariant-loop-register l = l.writes.items ≡ shifted l.cells l.register
