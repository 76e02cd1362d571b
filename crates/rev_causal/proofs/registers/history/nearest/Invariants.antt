use Rattle.std.proofs.Common.{◌≡◌, drop, map}
use Rattle.rev_causal.specs.Order.{nearest}
use Rattle.rev_causal.specs.Entries.{clash}
use Rattle.rev_causal.specs.History.{number_of}
use Rattle.rev_causal.specs.Registers.{register_machine}
use Rattle.rev_causal.specs.RegisterHistory.{entry_of}
use Rattle.rev_causal.proofs.registers.history.nearest.Given as goal

abbrev pub invariant-loop-k : goal.invariant-loop-k
invariant-loop-k l =
    number_of register_machine (nearest (clash register_machine) (entry_of l.of) (map entry_of (drop l.k-index l.later)))
    ≡ number_of register_machine (nearest (clash register_machine) (entry_of l.of) (map entry_of l.later))
