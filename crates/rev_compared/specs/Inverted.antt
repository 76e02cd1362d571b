-- The first pair of dependent events that stand the other way round in another history.
use Rattle.std.specs.Prelude.{◌≡◌, ℕ, ◌<◌, ◌≤◌, Bool, false, ◌&&◌, List, filter, get_or, length, map, Option, Some, None, is_some, slice_index_or, unwrap_or}
use Rattle.rev_causal.specs.Chosen.{chosen}
use Rattle.rev_causal.specs.Store.{Footprint, conflict}
use Rattle.rev_cells.specs.declared.cell.Cell.{Cell}
use Rattle.rev_cells.specs.Keys.{cell_cmp}
use Rattle.rev_history.specs.Along.{prints_along}
use Rattle.rev_history.specs.Timeline.{Timeline}
use Rattle.rev_order.specs.Overtaken.{place_at}
use Rattle.rev_order.specs.Pairs.{inverted_pair}
use Rattle.rev_runs.specs.Runs.{is_kept}

-- the event is kept, and one there is the same
abbrev pub is_compared : Timeline → List (Option ℕ) → ℕ → Bool
is_compared t matched number = is_kept t number && is_some (slice_index_or matched number None)

-- the kept numbers with such events
abbrev pub compared_of : Timeline → List (Option ℕ) → List ℕ
compared_of t matched = filter (is_compared t matched) t.kept

-- the place of each number there is the number of the same event there
abbrev pub places_of : List (Option ℕ) → List ℕ
places_of matched = map (λ other. unwrap_or other 0) matched

-- THE FIRST INVERTED PAIR: two of these events are inverted where the later one depends on the earlier one and stands
-- before it there; the first pair has the least first number, and among those with it the least second one
abbrev pub first_inverted_of : Timeline → List (Option ℕ) → Option (ℕ × ℕ)
first_inverted_of t matched =
    inverted_pair (conflict cell_cmp) (places_of matched) (chosen (prints_along t) (compared_of t matched))

-- whether an event depends on another one, where that one has a footprint
abbrev pub is_dependent : Footprint Cell → Option (Footprint Cell) → Bool
is_dependent f None = false
is_dependent f (Some g) = conflict cell_cmp f g

-- the leap of a place of some numbers: no number between the two stands before that one there
pub record IsLeap (places numbers : List ℕ) (i k : ℕ) : Type 0 where
  pub behind : i < k
  pub within : k ≤ length numbers
  pub between : (j : ℕ) → i < j → j < k → place_at places (get_or numbers i 0) ≤ place_at places (get_or numbers j 0)

-- the leaps of the places from one on
pub record AreLeaps (places numbers : List ℕ) (least : ℕ) (leaps : List ℕ) : Type 0 where
  pub size : length leaps ≡ length numbers
  pub at : (i : ℕ) → least ≤ i → i < length numbers → IsLeap places numbers i (get_or leaps i 0)
