-- Whether an event can be put back now.
use Rattle.std.specs.Prelude.{◌≡◌, ℕ, List, Some, None}
use Rattle.std.specs.List.{AllByRecursion, IsDistinct}
use Rattle.std.specs.Ordering.{eq_by_cmp}
use Rattle.rev_cells.specs.declared.cell.Cell.{Cell}
use Rattle.rev_cells.specs.declared.value.Value.{Value}
use Rattle.rev_cells.specs.Effects.{cells_of, stored_values}
use Rattle.rev_cells.specs.Keys.{cell_cmp}
use Rattle.rev_cells.specs.Values.{Fits}
use Rattle.rev_events.specs.declared.event.Event.{Event}
use Rattle.rev_events.specs.Machine.{effect}
use Rattle.rev_footprint.specs.Value.{FootprintValue}
use Rattle.rev_footprint.specs.Footprint.{footprint}
use Rattle.rev_history.specs.declared.step.Checked.{Checked}
use Rattle.rev_history.specs.declared.step.Checked.TheVariants.{Refused, Free}
use Rattle.rev_history.specs.Timeline.{Timeline, event_at, state_at, redo_refusal}

-- the footprint that the event of a number has in the present state
abbrev pub HasNow : Timeline → ℕ → FootprintValue → Type 0
HasNow t n f = (e : Event) → event_at t n ≡ Some e → f ≡ footprint t.manifest (state_at t) e

-- what the event of a number writes in the present state: each cell once, with a value of its kind
pub record WritesNow (t : Timeline) (n : ℕ) (writes : List (Cell × Value)) : Type 0 where
  pub stored : (e : Event) → event_at t n ≡ Some e → stored_values writes ≡ effect t.manifest (state_at t) e
  pub fits : AllByRecursion (λ (w : Cell × Value). Fits w.0 w.1) writes
  pub once : IsDistinct (eq_by_cmp cell_cmp) (cells_of writes)

abbrev pub IsChecked : Timeline → ℕ → Checked → Type 0
IsChecked t n (Refused r) = redo_refusal t n ≡ Some r
IsChecked t n (Free f writes) = (redo_refusal t n ≡ None) × HasNow t n f × WritesNow t n writes.items
