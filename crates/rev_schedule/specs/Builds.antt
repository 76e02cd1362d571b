-- What Ninja is to run.
use Rattle.std.specs.Prelude.{◌≡◌, ℕ, ◌<◌, ◌^◌, ◌==◌, false, List, length, slice_index, slice_index_or, if◌then◌else◌}
use Rattle.std.specs.Global.{Vec}
use Rattle.std.specs.List.{All}
use Rattle.rev_ranks.specs.Graph.{graph_of, successors_of}
use Rattle.rev_schedule.specs.declared.job.Job.{Job}
use Rattle.rev_schedule.specs.declared.job.Build.{Build}
use Rattle.rev_schedule.specs.Turns.{Turn}

abbrev pub edges_of : Build → ℕ
edges_of build = length build.jobs.items

abbrev pub no_job : Job
no_job = record { duration = 0; pool = 0; rank = 0; planned = 0; phony = false }

abbrev pub job_of : Build → ℕ → Job
job_of build edge = slice_index_or build.jobs.items edge no_job

-- the edges that make the inputs of an edge
abbrev pub makers_of : Build → ℕ → List ℕ
makers_of build edge = successors_of (graph_of build.makers.items) edge

abbrev pub turn_of : Build → ℕ → Turn
turn_of build edge = ((job_of build edge).rank, edge)

-- the turn in which it comes to its pool where it waits for nobody
abbrev pub first_turn_of : Build → ℕ → Turn
first_turn_of build edge = ((job_of build edge).planned, edge)

-- how many edges of a pool can be at work: a pool of depth 0 has a place for each edge
abbrev pub places_of : Build → ℕ → ℕ
places_of build pool =
    if slice_index build.depths.items pool == 0 then edges_of build else slice_index build.depths.items pool

-- Each edge has its makers and its pool, and each maker is an edge.
pub record IsWhole (build : Build) : Type 0 where
  pub small : edges_of build < 2 ^ 32
  pub each : length build.makers.items ≡ edges_of build
  pub makers_inside : All (λ (v : Vec ℕ). All (λ m. m < edges_of build) v.items) build.makers.items
  pub pools_inside : All (λ (job : Job). job.pool < length build.depths.items) build.jobs.items
