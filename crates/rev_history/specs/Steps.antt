-- What stands beside an accepted event.
use Rattle.std.specs.Prelude.{◌≡◌, ℕ, Bool, List, [], Option, Some, None, IsSome, length, map, take}
use Rattle.std.specs.FinSet as set
use Rattle.std.specs.List.{AllByRecursion, IsDistinct}
use Rattle.std.specs.Option.{option_map}
use Rattle.std.specs.Ordering.{eq_by_cmp}
use Rattle.rev_accesses.specs.Places as access_places
use Rattle.rev_accesses.specs.Places.{PlacesValue}
use Rattle.rev_accesses.specs.Value.{Prints}
use Rattle.rev_causal.specs.History.{event_at, numbered_by}
use Rattle.rev_causal.specs.Store.{Footprint, Footprint.Cells}
use Rattle.rev_cells.specs.declared.cell.Cell.{Cell}
use Rattle.rev_cells.specs.declared.value.Value.{Value}
use Rattle.rev_cells.specs.Effects.{stored_values}
use Rattle.rev_cells.specs.Keys.{cell_cmp}
use Rattle.rev_cells.specs.Places.{AreWithin, cells_at, with_values}
use Rattle.rev_events.specs.declared.event.Event.{Event}
use Rattle.rev_footprint.specs.Value as footprints
use Rattle.rev_footprint.specs.Value.{FootprintValue}
use Rattle.rev_history.specs.declared.steps.Step.{Step}

-- BY PLACES
-- a step beside an event, or none
abbrev pub Placed : Type 0
Placed = Option Step

-- the step that stands beside the event of a number, where one does
abbrev pub step_in : Option Placed → Option Step
step_in None = None
step_in (Some s) = s

abbrev pub step_beside : ℕ → List (ℕ × Event) → List Placed → Option Step
step_beside n es steps = step_in (event_at n (numbered_by es steps))

-- beside the event of each of some numbers stands a step
abbrev pub HaveSteps : List (ℕ × Event) → List Placed → List ℕ → Type 0
HaveSteps es steps ks = AllByRecursion (λ n. IsSome (step_beside n es steps)) ks

-- what the access lists see of a step: its footprint by places; where there is no step, no places
abbrev pub placed_print : Placed → Footprint ℕ
placed_print None = Cells [] []
placed_print (Some s) = access_places.print_of s.places

-- so under each number a footprint by places
abbrev pub place_prints : List (ℕ × Event) → List Placed → Prints
place_prints es steps = numbered_by es (map placed_print steps)

-- BY CELLS
-- the footprint of the cells at places
abbrev pub footprint_by_places : List Cell → PlacesValue → FootprintValue
footprint_by_places cells places =
    record {
      reads = set.from_list (cells_at cells places.read);
      writes = cells_at cells places.written;
      whole = places.whole;
    }

abbrev pub footprint_at : List Cell → Step → FootprintValue
footprint_at cells s = footprint_by_places cells s.places

-- the cells that were written, with what they held before
abbrev pub replaced_at : List Cell → Step → List (Cell × Value)
replaced_at cells s = with_values (cells_at cells s.places.written) s.replaced.items

-- a step by the cells at its places
pub record StepValue : Type 0 where
  pub footprint : FootprintValue
  pub replaced : List (Cell × Value)

abbrev pub step_value : List Cell → Step → StepValue
step_value cells s = record { footprint = footprint_at cells s; replaced = replaced_at cells s }

-- a step beside an event, or none
abbrev pub Beside : Type 0
Beside = Option StepValue

-- the steps by the cells of a table
abbrev pub named : List Cell → List Placed → List Beside
named cells steps = map (option_map (step_value cells)) steps

-- the step that stands beside the event of a number: `None` where there is no such event, `Some None` where there is
-- one, and nothing beside it
abbrev pub step_at : ℕ → List (ℕ × Event) → List Beside → Option Beside
step_at n es steps = event_at n (numbered_by es steps)

-- the footprint of a step, where there is one
abbrev pub footprint_in : Option Beside → Option FootprintValue
footprint_in None = None
footprint_in (Some None) = None
footprint_in (Some (Some s)) = Some s.footprint

-- the footprint that stands beside the event of a number
abbrev pub footprint_beside : ℕ → List (ℕ × Event) → List Beside → Option FootprintValue
footprint_beside n es steps = footprint_in (step_at n es steps)

-- beside the event of each of some numbers stands a footprint
abbrev pub HasFootprints : List (ℕ × Event) → List Beside → List ℕ → Type 0
HasFootprints es steps ks = AllByRecursion (λ n. IsSome (footprint_beside n es steps)) ks

-- what the theory of undo sees of a step: where there is none, no cells
abbrev pub print_of : Beside → Footprint Cell
print_of None = Cells [] []
print_of (Some s) = footprints.print_of s.footprint

-- and no values
abbrev pub values_of : Beside → List (Cell × Option Value)
values_of None = []
values_of (Some s) = stored_values s.replaced

-- so under each number a footprint for the theory of undo
abbrev pub prints_of : List (ℕ × Event) → List Beside → List (ℕ × Footprint Cell)
prints_of es steps = numbered_by es (map print_of steps)

-- the places are those of a footprint's cells, each of which is read once, the written ones first
pub record IsPrintAt (cells : List Cell) (f : FootprintValue) (places : PlacesValue) : Type 0 where
  pub is : footprint_by_places cells places ≡ f
  pub read : AreWithin cells places.read
  pub written : AreWithin cells places.written
  pub distinct : IsDistinct (eq_by_cmp cell_cmp) (cells_at cells places.read)
  pub first : take (length (cells_at cells places.written)) (cells_at cells places.read) ≡ cells_at cells places.written
