-- What writes of cells do to a state, in the words of the theory of undo.
use Rattle.std.proofs.Common.{◌≡◌, true, false, if◌then◌else◌, List, [], ◌∷◌, Some, None, length, sym, ap, subst, ◌∙◌, refl, arith}
use Rattle.std.specs.List.{AllByRecursion, IsDistinct}
use Rattle.std.specs.FinMap as map
use Rattle.std.specs.Ordering.{eq_by_cmp}
use Rattle.rev_causal.specs.Store.{set_cell, set_cells, replaced}
use Rattle.rev_cells.specs.declared.cell.Cell.{Cell}
use Rattle.rev_cells.specs.declared.value.Value.{Value}
use Rattle.rev_cells.specs.Effects.{set_all, cells_of, stored_values, stored_in}
use Rattle.rev_cells.specs.Keys.{cell_cmp}
use Rattle.rev_cells.specs.State.{State, set}
use Rattle.rev_cells.specs.Values.{is_default, unless_default}
use Rattle.rev_manifest.specs.Manifest.{ManifestValue}
use Rattle.rev_events.specs.declared.event.Event.{Event}
use Rattle.rev_events.specs.Machine.{effect, after}

-- a default is written by taking the cell out
set-is : (s : State) (k : Cell) (v : Value) → set s k v ≡ set_cell cell_cmp s k (unless_default v)
set-is s k v =
    elim (is_default v) as (λ b. (if b then map.remove s k else map.insert s k v) ≡ set_cell cell_cmp s k (if b then None else Some v)) [
      | true ↦ refl
      | false ↦ refl
    ]

pub set_all-is : (s : State) (ws : List (Cell × Value)) → set_all s ws ≡ set_cells cell_cmp s (stored_values ws)
set_all-is s [] = refl
set_all-is s (w ∷ ws) = set_all-is (set s w.0 w.1) ws ∙ ap (λ u. set_cells cell_cmp u (stored_values ws)) (set-is s w.0 w.1)

pub stored_in-is : (s : State) (ws : List (Cell × Value)) → stored_in s ws ≡ replaced s (stored_values ws)
stored_in-is s [] = refl
stored_in-is s (w ∷ ws) = ap (λ vs. (w.0, map.get s w.0) ∷ vs) (stored_in-is s ws)

pub length_stored : (ws : List (Cell × Value)) → length (stored_values ws) ≡ length ws
length_stored [] = refl
length_stored (w ∷ ws) = let rest : length (stored_values ws) ≡ length ws = length_stored ws in omega arith

-- what a write of an effect leaves, as a call finds it
pub values_found : (m : ManifestValue) (s : State) (e : Event) (writes former : List (Cell × Value)) → IsDistinct (eq_by_cmp cell_cmp) (cells_of writes) → (IsDistinct (eq_by_cmp cell_cmp) (cells_of writes) → stored_values former ≡ stored_in s writes) → stored_values writes ≡ effect m s e → stored_values former ≡ replaced s (effect m s e)
values_found m s e writes former distinct stored is = stored distinct ∙ stored_in-is s writes ∙ ap (replaced s) is

pub state_found : (m : ManifestValue) (s u : State) (e : Event) (writes : List (Cell × Value)) → u ≡ set_all s writes → stored_values writes ≡ effect m s e → u ≡ after m s e
state_found m s u e writes state is = state ∙ set_all-is s writes ∙ ap (set_cells cell_cmp s) is
