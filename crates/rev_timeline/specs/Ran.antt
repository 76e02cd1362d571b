-- The runs of a history with their times.
use Rattle.std.specs.Prelude.{◌≡◌, ℕ, nat_lt, List, Option, None, Some, map, option_and_then, unwrap_or, if◌then◌else◌, IsPermutation}
use Rattle.std.specs.List.{filter_map}
use Rattle.std.specs.List.Sorted.{IsNonDecreasingBy}
use Rattle.std.specs.Option.{option_map}
use Rattle.rev_events.specs.declared.event.Event.{Event}
use Rattle.rev_events.specs.declared.event.Event.TheVariants.{Fail, Abort}
use Rattle.rev_history.specs.Timeline.{Timeline, event_at, last_of}
use Rattle.rev_lanes.specs.Lanes.{AreApart, AreWithin}
use Rattle.rev_lanes.specs.declared.lanes.Lanes.{Lanes}
use Rattle.rev_lanes.specs.declared.span.Span.{Span}
use Rattle.rev_queries.specs.Times.{time_at}
use Rattle.rev_runs.specs.Runs.{runs_of}
use Rattle.rev_runs.specs.declared.ran.Run.{Run}
use Rattle.rev_timeline.specs.declared.ran.Ending.{Ending}
use Rattle.rev_timeline.specs.declared.ran.Ending.TheVariants.{Failed, Running, Stopped, Well}
use Rattle.rev_timeline.specs.declared.ran.Ran.{Ran}

-- how a command ended, by the event that ended it
abbrev pub ending_by : Option Event → Ending
ending_by (Some (Fail out stamps)) = Failed
ending_by (Some (Abort out stamps)) = Stopped
ending_by _ = Well

abbrev pub ending_of : Timeline → Option ℕ → Ending
ending_of t None = Running
ending_of t (Some ended) = ending_by (event_at t ended)

-- the later one of two times
abbrev pub later : ℕ → ℕ → ℕ
later one other = if nat_lt one other then other else one

-- When a command ended that began at a time: at the time of its end; where it had not ended, at that of the last event;
-- where that has none, or an earlier one, when it began.
abbrev pub end_of : Timeline → List (Option ℕ) → Option ℕ → ℕ → ℕ
end_of t times ended from = later from (unwrap_or (time_at times (unwrap_or ended (last_of t.accepted))) from)

abbrev pub ran_from : Timeline → List (Option ℕ) → Run → ℕ → Ran
ran_from t times r from =
    record { run = r; span = record { from = from; to = end_of t times r.ended from }; ending = ending_of t r.ended }

-- a run with its times, where it is kept and its start has one
abbrev pub ran_by : Timeline → List (Option ℕ) → Run → Option Ran
ran_by t times r = if r.kept then option_map (ran_from t times r) (time_at times r.began) else None

-- all runs with times, in the order of the events that began them
abbrev pub ran_of : Timeline → List (Option ℕ) → List Ran
ran_of t times = filter_map (ran_by t times) (runs_of t)

abbrev pub spans_of : List Ran → List Span
spans_of ran = map (λ (r : Ran). r.span) ran

-- THE ROWS OF A TIMELINE: each run with times once, by its beginning, in lanes in which no two overlap
pub record AreRows (t : Timeline) (times : List (Option ℕ)) (ran : List Ran) (lanes : List ℕ) (count : ℕ) : Type 0 where
  pub each_once : IsPermutation (ran_of t times) ran
  pub by_beginning : IsNonDecreasingBy (λ (r : Ran). r.span.from) ran
  pub apart : AreApart (spans_of ran) lanes
  pub within : AreWithin count lanes
