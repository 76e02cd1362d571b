use Rattle.std.proofs.Common.{◌≡◌, false, take}
use Rattle.rev_scopes.specs.Edges.{seen_edge}
use Rattle.rev_scopes.specs.Slots.{seen_slots, IsWaiting}
use Rattle.rev_scopes.proofs.SlotLemmas.{Stuck}
use Rattle.rev_scopes.proofs.edge_values.next_value.Given as goal

abbrev pub invariant-loop-place : goal.invariant-loop-place
invariant-loop-place l = l.needed_only ≡ false → Stuck (IsWaiting (seen_edge l.edge) (seen_slots l.slots)) (seen_slots (take l.place l.slots))
