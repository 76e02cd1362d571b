-- Which runs a history has, and which event ends one.
use Rattle.std.specs.Prelude.{◌≡◌, ◌↔◌, ℕ, ◌+◌, ◌<◌, ◌≤◌, Bool, Some}
use Rattle.std.specs.List.{Contains}
use Rattle.rev_history.specs.Timeline.{Timeline, last_of}
use Rattle.rev_runs.specs.declared.ran.Run.{Run}
use Rattle.rev_runs.specs.declared.steps.Step.{Step}
use Rattle.rev_runs.specs.declared.steps.Step.TheVariants.{Begin, End}
use Rattle.rev_runs.specs.Runs.{edge_of, is_kept, runs_of, step_at}

-- the event of a number begins or ends the edge's command, and it is kept, or it is not
pub record Turns (t : Timeline) (kept : Bool) (edge n : ℕ) : Type 0 where
  pub step : Step
  pub does : step_at t n ≡ Some step
  pub of_edge : edge_of step ≡ edge
  pub kept_is : is_kept t n ≡ kept

-- The event of a number ends the edge's command. It is the least such number from another one on and below a bound, and
-- no event between begins the command.
pub record IsNextEnd (t : Timeline) (kept : Bool) (edge from bound n : ℕ) : Type 0 where
  pub after : from ≤ n
  pub within : n < bound
  pub ends : step_at t n ≡ Some (End edge)
  pub kept_is : is_kept t n ≡ kept
  pub first : (between : ℕ) → from ≤ between → between < n → Turns t kept edge between → ⊥

-- A run, of the numbers from one on and below a bound: an event that begins its edge's command on its job, with the next
-- end of that command, where there is one. A kept event ends by a kept one, and one that was undone by one that was.
pub record IsRunWithin (t : Timeline) (from bound : ℕ) (r : Run) : Type 0 where
  pub after : from ≤ r.began
  pub within : r.began < bound
  pub begins : step_at t r.began ≡ Some (Begin r.edge r.job)
  pub kept_is : r.kept ≡ is_kept t r.began
  pub ended : (n : ℕ) → (r.ended ≡ Some n) ↔ IsNextEnd t r.kept r.edge (r.began + 1) bound n

-- the runs of a history are exactly those of its accepted events
abbrev pub RunsEndNext : Type 0
RunsEndNext = (t : Timeline) (r : Run) → Contains (runs_of t) r ↔ IsRunWithin t 1 (1 + last_of t.accepted) r
