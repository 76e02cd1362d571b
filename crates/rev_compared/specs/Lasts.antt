-- The last run of each edge.
use Rattle.std.specs.Prelude.{ℕ, nat_lt, Bool, ◌==◌, ◌&&◌, List, [], ◌∷◌, Option, None, Some, if◌then◌else◌}
use Rattle.rev_events.specs.declared.event.Event.{Event}
use Rattle.rev_events.specs.declared.event.Event.TheVariants.{Fail, Abort}
use Rattle.rev_history.specs.Timeline.{Timeline, event_at}
use Rattle.rev_runs.specs.Runs.{runs_of}
use Rattle.rev_runs.specs.declared.ran.Run.{Run}
use Rattle.rev_compared.specs.declared.lasts.Ending.{Ending}
use Rattle.rev_compared.specs.declared.lasts.Ending.TheVariants.{Failed, Running, Stopped, Well}
use Rattle.rev_compared.specs.declared.lasts.Last.{Last}

-- how a command ended, by the event that ended it
abbrev pub ending_by : Option Event → Ending
ending_by (Some (Fail out stamps)) = Failed
ending_by (Some (Abort out stamps)) = Stopped
ending_by _ = Well

abbrev pub ending_of : Timeline → Option ℕ → Ending
ending_of t None = Running
ending_of t (Some ended) = ending_by (event_at t ended)

abbrev pub last_by : Timeline → Run → Last
last_by t r = record { began = r.began; ended = r.ended; ending = ending_of t r.ended }

-- the last of some runs that is kept and of this edge; where there is none, the one before them
abbrev pub last_from : Timeline → ℕ → Option Last → List Run → Option Last
last_from t edge best [] = best
last_from t edge best (r ∷ rs) = last_from t edge (if r.kept && (r.edge == edge) then Some (last_by t r) else best) rs

-- THE LAST KEPT RUN of an edge
abbrev pub last_of : Timeline → ℕ → Option Last
last_of t edge = last_from t edge None (runs_of t)

-- a run began before the event of a number
abbrev pub is_begun_before : ℕ → Run → Bool
is_begun_before number r = nat_lt r.began number
