-- The runs of commands: each start with the next end of its edge.
use Rattle.std.specs.Prelude.{◌≡◌, ℕ, ◌==◌, ◌+◌, ◌-◌, Bool, true, false, not, List, [], ◌∷◌, ◌++◌, length, reverse, Option, Some, None, is_some, option_and_then, slice_index_or, if◌then◌else◌}
use Rattle.std.specs.List.{range_with_len}
use Rattle.std.specs.Option.{option_map}
use Rattle.rev_manifest.specs.Manifest.{ManifestValue}
use Rattle.rev_graph.specs.Graph.{producer_of}
use Rattle.rev_events.specs.declared.event.Event.{Event}
use Rattle.rev_events.specs.declared.event.Event.TheVariants.{Start, Finish, Fail, Abort}
use Rattle.rev_history.specs.Timeline.{Timeline, event_at, kept_footprint, last_of}
use Rattle.rev_runs.specs.declared.ran.Ends.{Ends}
use Rattle.rev_runs.specs.declared.ran.Run.{Run}
use Rattle.rev_runs.specs.declared.steps.Step.{Step}
use Rattle.rev_runs.specs.declared.steps.Step.TheVariants.{Begin, End}

-- what an event does to the command of an edge, which any of its outputs names
abbrev pub step_of : ManifestValue → Event → Option Step
step_of manifest (Start out job slot) = option_map (λ edge. Begin edge job) (producer_of manifest.builds out)
step_of manifest (Finish out stamps listing) = option_map End (producer_of manifest.builds out)
step_of manifest (Fail out stamps) = option_map End (producer_of manifest.builds out)
step_of manifest (Abort out stamps) = option_map End (producer_of manifest.builds out)
step_of manifest _ = None

abbrev pub edge_of : Step → ℕ
edge_of (Begin edge job) = edge
edge_of (End edge) = edge

-- the event of a number is kept
abbrev pub is_kept : Timeline → ℕ → Bool
is_kept t n = is_some (kept_footprint t n)

-- what the event that was accepted under a number does
abbrev pub step_at : Timeline → ℕ → Option Step
step_at t n = option_and_then (step_of t.manifest) (event_at t n)

-- The number that ends an edge's command, where these numbers come next: the first that ends it, unless one that begins
-- it comes first.
abbrev pub ended_by : ℕ → ℕ → Step → Option ℕ → Option ℕ
ended_by edge n (Begin e job) later = if e == edge then None else later
ended_by edge n (End e) later = if e == edge then Some n else later

abbrev pub next_end : ℕ → ℕ → Option Step → Option ℕ → Option ℕ
next_end edge n None later = later
next_end edge n (Some step) later = ended_by edge n step later

-- of two, both hold or both do not
abbrev pub alike : Bool → Bool → Bool
alike true other = other
alike false other = not other

-- the same, among the numbers whose events are kept, or among those that are not
abbrev pub end_among : Timeline → Bool → ℕ → List ℕ → Option ℕ
end_among t kept edge [] = None
end_among t kept edge (n ∷ ns) =
    if alike kept (is_kept t n)
    then next_end edge n (step_at t n) (end_among t kept edge ns)
    else end_among t kept edge ns

-- the run of a step, if it begins one
abbrev pub run_of : ℕ → Option ℕ → Bool → Step → List Run
run_of n ended kept (Begin edge job) =
    record { edge = edge; job = job; began = n; ended = ended; kept = kept } ∷ []
run_of n ended kept (End edge) = []

-- the run that a number begins, if it begins one, where these numbers come next
abbrev pub run_by : Timeline → ℕ → List ℕ → Option Step → List Run
run_by t n ns None = []
run_by t n ns (Some step) = run_of n (end_among t (is_kept t n) (edge_of step) ns) (is_kept t n) step

-- the runs that these numbers begin, in their order
abbrev pub runs_in : Timeline → List ℕ → List Run
runs_in t [] = []
runs_in t (n ∷ ns) = run_by t n ns (step_at t n) ++ runs_in t ns

-- all runs of the accepted events
abbrev pub runs_of : Timeline → List Run
runs_of t = runs_in t (range_with_len 1 (last_of t.accepted))

-- AS THEY ARE FOUND, from the last number down
-- there is a place for each edge
pub record AreSized (manifest : ManifestValue) (ends : Ends) : Type 0 where
  pub kept : length ends.kept.items ≡ length manifest.builds
  pub undone : length ends.undone.items ≡ length manifest.builds

-- what was found of some numbers: their runs, the last one first, and what ends each edge
pub record IsFound (t : Timeline) (ns : List ℕ) (ends : Ends) (runs : List Run) : Type 0 where
  pub runs_are : reverse runs ≡ runs_in t ns
  pub kept_are : (edge : ℕ) → slice_index_or ends.kept.items edge None ≡ end_among t true edge ns
  pub undone_are : (edge : ℕ) → slice_index_or ends.undone.items edge None ≡ end_among t false edge ns

-- the same of so many numbers up to the last
pub record IsPartial (t : Timeline) (last passed : ℕ) (ends : Ends) (runs : List Run) : Type 0 where
  pub sized : AreSized t.manifest ends
  pub found : IsFound t (range_with_len (last - passed + 1) passed) ends runs
