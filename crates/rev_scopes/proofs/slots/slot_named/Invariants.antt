use Rattle.std.proofs.Common.{◌≡◌, drop}
use Rattle.rev_scopes.specs.Bindings.{value_of}
use Rattle.rev_scopes.specs.Slots.{seen_slots}
use Rattle.rev_scopes.proofs.slots.slot_named.Given as goal

abbrev pub invariant-loop-slot : goal.invariant-loop-slot
invariant-loop-slot l = value_of l.name (seen_slots (drop l.slot-index l.slots)) ≡ value_of l.name (seen_slots l.slots)
