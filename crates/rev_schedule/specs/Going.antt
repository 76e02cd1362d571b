-- What the code has in mind, as a moment of the build.
use Rattle.std.specs.Prelude.{◌≡◌, ℕ, ◌+◌, ◌-◌, ◌^◌, ◌<◌, min, List, [], ◌∷◌, ◌++◌, length, map}
use Rattle.std.specs.Global.{Vec}
use Rattle.std.specs.List.{All}
use Rattle.std.specs.List.Sorted.{IsPermutation}
use Rattle.rev_ranks.specs.Graph.{graph_of}
use Rattle.rev_ranks.specs.Sets.{IsReversed}
use Rattle.rev_schedule.specs.declared.going.Going.{Going}
use Rattle.rev_schedule.specs.declared.job.Build.{Build}
use Rattle.rev_schedule.specs.Lines.{line_items}
use Rattle.rev_schedule.specs.Builds.{edges_of, job_of}
use Rattle.rev_schedule.specs.Inputs.{IsKnown}
use Rattle.rev_schedule.specs.Moments.{Moment, line_of}
use Rattle.rev_schedule.specs.Turns.{Turn}

abbrev pub moment_of : Going → Moment
moment_of going = record {
  time = going.time;
  freed = going.freed;
  through = going.through.items;
  ready = line_items going.ready;
  running = line_items going.running;
  used = going.used.items;
  waiting = map line_items going.waiting.items;
  runs = going.runs.items;
}

pub record HasPools (build : Build) (going : Going) : Type 0 where
  pub used : length going.used.items ≡ length build.depths.items
  pub waiting : length going.waiting.items ≡ length build.depths.items

pub record SameKnown (before after : Going) : Type 0 where
  pub through : after.through ≡ before.through
  pub missing : after.missing ≡ before.missing

-- What is known of the inputs is so.
pub record HasInputs (build : Build) (going : Going) : Type 0 where
  pub each : length going.through.items ≡ edges_of build
  pub known : IsKnown build going.through.items going.missing.items

-- The users of an edge are those whose maker it is.
pub record AreUsers (build : Build) (users : List (Vec ℕ)) : Type 0 where
  pub reversed : IsReversed (graph_of build.makers.items) (graph_of users)
  pub inside : All (λ (v : Vec ℕ). All (λ u. u < edges_of build) v.items) users
  pub each : length users ≡ edges_of build

-- Each edge in a line is one of the build.
pub record AreInside (build : Build) (moment : Moment) : Type 0 where
  pub ready : All (λ (turn : Turn). turn.1 < edges_of build) moment.ready
  pub running : All (λ (turn : Turn). turn.1 < edges_of build) moment.running
  pub waiting : (pool : ℕ) → All (λ (turn : Turn). turn.1 < edges_of build) (line_of moment pool)

-- The command of an edge runs from now on.
pub record IsStarted (build : Build) (edge : ℕ) (before after : Moment) : Type 0 where
  pub end : ℕ
  pub lasts : end ≡ min (before.time + (job_of build edge).duration) (2 ^ 64 - 1)
  pub running : IsPermutation ((end, edge) ∷ before.running) after.running
  pub runs : after.runs ≡ before.runs ++ record { edge = edge; start = before.time; end = end; cause = before.freed } ∷ []
  pub time : after.time ≡ before.time
  pub freed : after.freed ≡ before.freed
  pub through : after.through ≡ before.through
  pub ready : after.ready ≡ before.ready
  pub used : after.used ≡ before.used
  pub waiting : after.waiting ≡ before.waiting
