use Rattle.std.proofs.Common.{◌≡◌, take, map}
use Rattle.rev_scopes.specs.Seen.{seen_texts}
use Rattle.rev_scopes.specs.Slots.{seen_slots, unknown_slot}
use Rattle.rev_scopes.proofs.slots.slots_of.Given as goal

abbrev pub invariant-loop-bound : goal.invariant-loop-bound
invariant-loop-bound l = seen_slots l.slots.items ≡ map unknown_slot (seen_texts (take l.bound-index l.bound-items))
