-- Runs that failed.
use Rattle.std.specs.Prelude.{◌≡◌, ℕ, nat_lt, List, filter, length, Option, None, option_and_then, slice_index_or}
use Rattle.std.specs.List.{filter_map}
use Rattle.std.specs.Option.{option_map}
use Rattle.rev_manifest.specs.Manifest.{BuildValue}
use Rattle.rev_graph.specs.Graph.{producer_of}
use Rattle.rev_events.specs.declared.event.Event.{Event}
use Rattle.rev_events.specs.declared.event.Event.TheVariants.{Fail}
use Rattle.rev_history.specs.Timeline.{Numbered, Timeline, chosen, event_at}
use Rattle.rev_races.specs.Races.{starts}
use Rattle.rev_races.specs.Runs.{last_number}
use Rattle.rev_suspects.specs.declared.failed.Failure.{Failure}

-- the kept events before a number
abbrev pub kept_before : Timeline → ℕ → Numbered
kept_before t n = chosen t.accepted (filter (λ k. nat_lt k n) t.kept)

-- the edge whose command an event fails, which any of its outputs names
abbrev pub failed_edge : List BuildValue → Event → Option ℕ
failed_edge builds (Fail out stamps) = producer_of builds out
failed_edge builds _ = None

-- the last start of an edge among some events
abbrev pub last_start : Timeline → Numbered → ℕ → Option ℕ
last_start t events edge = last_number (λ (e : ℕ × Event). starts t.manifest edge e.1) events

-- the run of an edge that failed under a number: the edge's last start before it began the run
abbrev pub failure_by : Timeline → ℕ → ℕ → Option Failure
failure_by t n edge =
    option_map (λ began. record { number = n; edge = edge; began = began }) (last_start t (kept_before t n) edge)

-- the run that the event of a number failed, if it failed one
abbrev pub failure_at : Timeline → ℕ → Option Failure
failure_at t n =
    option_and_then (failure_by t n) (option_and_then (failed_edge t.manifest.builds) (event_at t n))

-- the runs that failed by kept events, in the order of these
abbrev pub failures_of : Timeline → List Failure
failures_of t = filter_map (failure_at t) t.kept

-- AS THEY ARE FOUND
-- for each edge its last start among the events of some kept numbers
pub record AreStarts (t : Timeline) (ks : List ℕ) (begins : List (Option ℕ)) : Type 0 where
  pub each : length begins ≡ length t.manifest.builds
  pub exact : (edge : ℕ) → slice_index_or begins edge None ≡ last_start t (chosen t.accepted ks) edge
