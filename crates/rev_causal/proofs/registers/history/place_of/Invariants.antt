use Rattle.std.proofs.Common.{take}
use Rattle.rev_causal.specs.RegisterHistory.{AllBelow}
use Rattle.rev_causal.proofs.registers.history.place_of.Given as goal

abbrev pub invariant-loop-place : goal.invariant-loop-place
invariant-loop-place l = AllBelow l.number (take l.place l.kept)
