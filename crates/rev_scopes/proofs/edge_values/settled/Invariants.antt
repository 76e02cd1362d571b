use Rattle.rev_scopes.specs.Edges.{seen_edge}
use Rattle.rev_scopes.specs.Slots.{seen_slots, AreOf}
use Rattle.rev_scopes.proofs.SlotLemmas.{unknown}
use Rattle.rev_scopes.proofs.edge_values.settled.Given as goal

abbrev pub invariant-loop-settled : goal.invariant-loop-settled
invariant-loop-settled l = AreOf (seen_edge l.edge) (seen_slots l.settled.items)

abbrev pub decreases-loop-settled : goal.decreases-loop-settled
decreases-loop-settled l = unknown l.settled.items
