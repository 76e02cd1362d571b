use Rattle.std.proofs.Common.{◌≡◌, drop, map}
use Rattle.rev_causal.specs.History.{nearest_above}
use Rattle.rev_causal.specs.Registers.{register_machine}
use Rattle.rev_causal.specs.RegisterHistory.{entry_of}
use Rattle.rev_causal.proofs.registers.history.nearest_above.Given as goal

abbrev pub invariant-loop-k : goal.invariant-loop-k
invariant-loop-k l = nearest_above register_machine l.number l.footprint (map entry_of (drop l.k-index l.kept)) ≡ nearest_above register_machine l.number l.footprint (map entry_of l.kept)
