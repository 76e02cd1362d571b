-- How long commands took, by the times that are given of events.
use Rattle.std.specs.Prelude.{◌≡◌, ℕ, ◌-◌, ◌≤◌, ◌<◌, List, length, Option, Some, None, option_and_then, slice_get, slice_index_or, if◌then◌else◌}
use Rattle.std.specs.List.{filter_map}
use Rattle.std.specs.Option.{option_map}
use Rattle.rev_history.specs.Timeline.{Timeline}
use Rattle.rev_runs.specs.Runs.{runs_of}
use Rattle.rev_runs.specs.declared.ran.Run.{Run}
use Rattle.rev_queries.specs.declared.times.Timed.{Timed}

-- the time of an event by its number, where one is given
abbrev pub time_at : List (Option ℕ) → ℕ → Option ℕ
time_at times number = option_and_then (λ (time : Option ℕ). time) (slice_get times number)

abbrev pub timed_from : ℕ → ℕ → ℕ → ℕ → ℕ → Timed
timed_from edge began ended from to = record { edge = edge; began = began; ended = ended; from = from; to = to }

-- a run with its times, where it is kept and both of its events have one
abbrev pub timed_to : List (Option ℕ) → Run → ℕ → Option Timed
timed_to times r ended =
    option_and_then (λ from. option_map (timed_from r.edge r.began ended from) (time_at times ended)) (time_at times r.began)

abbrev pub timed_by : List (Option ℕ) → Run → Option Timed
timed_by times r = if r.kept then option_and_then (timed_to times r) r.ended else None

-- ALL RUNS WITH TIMES, in the order of the numbers that began them
abbrev pub timed_of : Timeline → List (Option ℕ) → List Timed
timed_of t times = filter_map (timed_by times) (runs_of t)
