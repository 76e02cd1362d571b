use Rattle.std.proofs.Common.{◌≡◌, List, ℕ, [], length}
use Rattle.rev_scopes.specs.Expansion.{limited, appended}
use Rattle.rev_scopes.specs.Edges.{seen_edge, IsExpanded}
use Rattle.rev_scopes.specs.Slots.{seen_slots, IsWaiting, Waits}
use Rattle.rev_scopes.proofs.edge_values.text_value.Given as goal

-- a rest that waits, or that has a value, says so of the whole text
abbrev pub invariant-loop-piece : goal.invariant-loop-piece
invariant-loop-piece l =
    (Waits (IsWaiting (seen_edge l.edge) (seen_slots l.slots)) l.rest → Waits (IsWaiting (seen_edge l.edge) (seen_slots l.slots)) l.fn.text)
    × ((others : List ℕ) → IsExpanded (seen_edge l.edge) l.rest others → (value : List ℕ) × IsExpanded (seen_edge l.edge) l.fn.text value × (limited value ≡ appended l.value others))
    × (appended l.value [] ≡ l.value)

abbrev pub decreases-loop-piece : goal.decreases-loop-piece
decreases-loop-piece l = length l.rest
