-- What holds of the fields of a history, and what they show.
use Rattle.std.specs.Prelude.{◌≡◌, ℕ, List, [], ◌∷◌, Some, IfSome, is_some, length, map, take}
use Rattle.std.specs.List.{AllByRecursion, IsDistinct}
use Rattle.std.specs.Ordering.{eq_by_cmp}
use Rattle.rev_accesses.specs.Value.{Prints, Shows}
use Rattle.rev_causal.specs.Chosen.{chosen, is_among}
use Rattle.rev_causal.specs.Stepped.{IsStepped}
use Rattle.rev_cells.specs.declared.cell.Cell.{Cell}
use Rattle.rev_cells.specs.declared.value.Value.{Value}
use Rattle.rev_cells.specs.Keys.{cell_cmp}
use Rattle.rev_cells.specs.Places.{AreWithin, cells_at}
use Rattle.rev_cells.specs.State.{State}
use Rattle.rev_cells.specs.Values.{Fits}
use Rattle.rev_manifest.specs.Manifest.{ManifestValue}
use Rattle.rev_events.specs.declared.event.Event.{Event}
use Rattle.rev_footprint.specs.Value.{FootprintValue}
use Rattle.rev_footprint.specs.Footprint.{footprint}
use Rattle.rev_footprint.specs.Machine.{table}
use Rattle.rev_history.specs.declared.history.History.TheInside.{Inside}
use Rattle.rev_history.specs.declared.steps.Step.{Step}
use Rattle.rev_history.specs.Steps.{Beside, Placed, StepValue, named, step_at, place_prints, print_of, values_of}
use Rattle.rev_history.specs.Timeline.{Timeline, last_of}
use Rattle.rev_history.specs.Value.{HistoryValue}

abbrev pub timeline_of : Inside → Timeline
timeline_of a =
    record {
      manifest = a.graph.manifest;
      jobs = a.opening.jobs;
      opening = a.opening.state;
      accepted = a.accepted.entries;
      kept = a.kept.items;
    }

-- what stands beside its events, by cells
abbrev pub beside_of : Inside → List Beside
beside_of a = named a.cells.places a.steps.items

abbrev pub value_of : Inside → HistoryValue
value_of a = record { timeline = timeline_of a; writes = a.cells.writes }

-- each value of a step is of the kind of its cell
abbrev pub CanPutBack : StepValue → Type 0
CanPutBack s = AllByRecursion (λ (w : Cell × Value). Fits w.0 w.1) s.replaced

-- a footprint that an event has in some state
pub record IsFootprintOf (manifest : ManifestValue) (e : Event) (f : FootprintValue) : Type 0 where
  pub state : State
  pub is : f ≡ footprint manifest state e

-- where a step stands beside an event, its footprint is one of the event
abbrev pub HaveFootprints : ManifestValue → List (ℕ × Event) → List Beside → Type 0
HaveFootprints manifest [] steps = Unit {0}
HaveFootprints manifest (e ∷ es) [] = Unit {0}
HaveFootprints manifest (e ∷ es) (s ∷ steps) =
    IfSome s (λ x. IsFootprintOf manifest e.1 x.footprint) × HaveFootprints manifest es steps

-- beside the event of a number stands a step exactly where it is kept: what is not kept keeps no footprint and no
-- values
abbrev pub StandBesideKept : List (ℕ × Event) → List Beside → List ℕ → Type 0
StandBesideKept es steps ks = (n : ℕ) (s : Beside) → step_at n es steps ≡ Some s → is_some s ≡ is_among ks n

-- the footprints of the kept events' places in the list, under their numbers, by the places of their cells
abbrev pub kept_prints : Inside → Prints
kept_prints a = chosen (place_prints a.accepted.entries a.steps.items) a.kept.items

-- The kept events are accepted one after the other, the cells are those that they lead to, and beside each stand the
-- footprint of its place and the values that it replaced there, and beside no other event any. What stands there can be
-- put back without memory, and no number is above the last.
pub record IsSound (a : Inside) : Type 0 where
  pub stepped : IsStepped (table a.graph.manifest a.opening.jobs) a.opening.state a.cells.state a.accepted.entries
      a.kept.items (map print_of (beside_of a)) (map values_of (beside_of a))
  pub footprints : HaveFootprints a.graph.manifest a.accepted.entries (beside_of a)
  pub beside : StandBesideKept a.accepted.entries (beside_of a) a.kept.items
  pub ready : AllByRecursion (λ (s : Beside). IfSome s CanPutBack) (beside_of a)
  pub jobs : a.cells.jobs ≡ a.opening.jobs
  pub last : a.last ≡ last_of a.accepted.entries

-- the places of a step are places of these cells, each of which is read once, the written ones first; and there is a
-- value for each that is written
pub record IsPlacedIn (cells : List Cell) (s : Step) : Type 0 where
  pub read : AreWithin cells s.places.read
  pub written : AreWithin cells s.places.written
  pub distinct : IsDistinct (eq_by_cmp cell_cmp) (cells_at cells s.places.read)
  pub first : take (length (cells_at cells s.places.written)) (cells_at cells s.places.read)
      ≡ cells_at cells s.places.written
  pub many : length s.replaced.items ≡ length s.places.written

abbrev pub ArePlacedIn : List Cell → List Placed → Type 0
ArePlacedIn cells steps = AllByRecursion (λ (s : Placed). IfSome s (IsPlacedIn cells)) steps

-- and the access lists are those of the kept events' footprints, by the places of their cells, of which none has two
pub record IsListed (a : Inside) : Type 0 where
  pub sound : IsSound a
  pub shown : Shows a.accesses (kept_prints a)
  pub placed : ArePlacedIn a.cells.places a.steps.items
  pub distinct : IsDistinct (eq_by_cmp cell_cmp) a.cells.places
