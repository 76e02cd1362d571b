-- NINJA'S SCHEDULE, to be read beside `Plan` and `Builder::Build` in Ninja's build.cc.
use Rattle.std.specs.Prelude.{◌≡◌, ℕ, ◌+◌, ◌-◌, ◌^◌, ◌<◌, ◌≤◌, ◌⊎◌, ◌==◌, min, Bool, true, false, Some, None, List, [], ◌∷◌, ◌++◌, length, slice_index, slice_index_or, slice_set}
use Rattle.std.specs.List.{All, Contains, count_by}
use Rattle.std.specs.List.Sorted.{IsPermutation}
use Rattle.rev_schedule.specs.declared.job.Build.{Build}
use Rattle.rev_schedule.specs.declared.job.Run.{Run}
use Rattle.rev_schedule.specs.Turns.{Turn, GoesBefore, IsFirst}
use Rattle.rev_schedule.specs.Builds.{edges_of, job_of, makers_of, turn_of, first_turn_of, places_of}
use Rattle.rev_schedule.specs.Moments.{Moment, OnlyQueues, OnlyLine, line_of}

-- A PLACE IN A POOL
-- `Plan::ScheduleWork`: an edge whose pool has a place takes it, and is ready.
pub record Enters (build : Build) (edge : ℕ) (before after : Moment) : Type 0 where
  pub has_place : slice_index before.used (job_of build edge).pool < places_of build (job_of build edge).pool
  pub used : after.used ≡ slice_set before.used (job_of build edge).pool (slice_index before.used (job_of build edge).pool + 1)
  pub ready : IsPermutation (turn_of build edge ∷ before.ready) after.ready
  pub waiting : after.waiting ≡ before.waiting
  pub rest : OnlyQueues before after

-- `Pool::DelayEdge`: else it waits for a place.
pub record Waits (build : Build) (edge : ℕ) (before after : Moment) : Type 0 where
  pub no_place : places_of build (job_of build edge).pool ≤ slice_index before.used (job_of build edge).pool
  pub line : IsPermutation (turn_of build edge ∷ line_of before (job_of build edge).pool) (line_of after (job_of build edge).pool)
  pub others : OnlyLine (job_of build edge).pool before.waiting after.waiting
  pub used : after.used ≡ before.used
  pub ready : after.ready ≡ before.ready
  pub rest : OnlyQueues before after

abbrev pub Arrives : Build → ℕ → Moment → Moment → Type 0
Arrives build edge before after = Enters build edge before after ⊎ Waits build edge before after

-- edges arrive one after the other
pub data ArriveAll (build : Build) (before : Moment) : List Turn → Moment → Type 0 where
  nobody : ArriveAll build before [] before
  one_more : {turns : List Turn} (turn : Turn) {between after : Moment} → ArriveAll build before turns between
      → Arrives build turn.1 between after → ArriveAll build before (turns ++ turn ∷ []) after

-- `Pool::EdgeFinished` and `RetrieveReadyEdges`: an edge that is done hands its place to the first one in the line.
pub record HandsOn (build : Build) (edge : ℕ) (before after : Moment) : Type 0 where
  pub next : Turn
  pub first : IsFirst next (line_of before (job_of build edge).pool) (line_of after (job_of build edge).pool)
  pub others : OnlyLine (job_of build edge).pool before.waiting after.waiting
  pub ready : IsPermutation (next ∷ before.ready) after.ready
  pub used : after.used ≡ before.used
  pub rest : OnlyQueues before after

-- The same, where nobody waits for the place.
pub record Frees (build : Build) (edge : ℕ) (before after : Moment) : Type 0 where
  pub nobody : line_of before (job_of build edge).pool ≡ []
  pub used : after.used ≡ slice_set before.used (job_of build edge).pool (slice_index before.used (job_of build edge).pool - 1)
  pub ready : after.ready ≡ before.ready
  pub waiting : after.waiting ≡ before.waiting
  pub rest : OnlyQueues before after

abbrev pub Leaves : Build → ℕ → Moment → Moment → Type 0
Leaves build edge before after = HandsOn build edge before after ⊎ Frees build edge before after

-- `Edge::AllInputsReady`
abbrev pub AllThrough : Build → List Bool → ℕ → Type 0
AllThrough build through edge = All (λ m. slice_index_or through m false ≡ true) (makers_of build edge)

-- The edges whose last input has come: each of them once, in turn.
pub record BecomeReady (build : Build) (turn_by : ℕ → Turn) (IsToCome : ℕ → Type 0) (turns : List Turn) : Type 0 where
  pub each : (edge : ℕ) → edge < edges_of build → IsToCome edge → Contains turns (turn_by edge)
  pub only : (turn : Turn) → Contains turns turn → (turn.1 < edges_of build) × (turn ≡ turn_by turn.1) × IsToCome turn.1
  pub once : (edge : ℕ) → count_by (λ (turn : Turn). turn.1 == edge) turns ≤ 1
  pub in_turn : (i j : ℕ) (d : Turn) → i ≤ j → j < length turns → GoesBefore (slice_index_or turns i d) (slice_index_or turns j d)

-- `Plan::EdgeFinished`: the edge leaves its pool, its outputs are ready, and edges that waited for them alone arrive.
pub record Finishes (build : Build) (edge : ℕ) (before after : Moment) : Type 0 where
  pub left : Moment
  pub leaves : Leaves build edge before left
  pub turns : List Turn
  pub come : BecomeReady build (turn_of build) (λ user. AllThrough build (slice_set left.through edge true) user
      × (AllThrough build left.through user → ⊥)) turns
  pub arrive : ArriveAll build (record left { through = slice_set left.through edge true }) turns after

-- THE LOOP of `Builder::Build`, with so many jobs
-- A job is free, and the first ready edge is a command: it runs.
pub record Starts (build : Build) (jobs : ℕ) (before after : Moment) : Type 0 where
  pub free : length before.running < jobs
  pub turn : Turn
  pub first : IsFirst turn before.ready after.ready
  pub command : (job_of build turn.1).phony ≡ false
  pub end : ℕ
  pub lasts : end ≡ min (before.time + (job_of build turn.1).duration) (2 ^ 64 - 1)
  pub running : IsPermutation ((end, turn.1) ∷ before.running) after.running
  pub runs : after.runs ≡ before.runs ++ record { edge = turn.1; start = before.time; end = end; cause = before.freed } ∷ []
  pub time : after.time ≡ before.time
  pub freed : after.freed ≡ before.freed
  pub through : after.through ≡ before.through
  pub used : after.used ≡ before.used
  pub waiting : after.waiting ≡ before.waiting

-- A job is free, and the first ready edge is phony: it is done at once.
pub record Passes (build : Build) (jobs : ℕ) (before after : Moment) : Type 0 where
  pub free : length before.running < jobs
  pub turn : Turn
  pub rest : List Turn
  pub first : IsFirst turn before.ready rest
  pub phony : (job_of build turn.1).phony ≡ true
  pub finishes : Finishes build turn.1 (record before { ready = rest }) after

-- No edge can start: Ninja waits for the run that ends first.
pub record Ends (build : Build) (jobs : ℕ) (before after : Moment) : Type 0 where
  pub none_starts : (jobs ≤ length before.running) ⊎ (before.ready ≡ [])
  pub turn : Turn
  pub rest : List Turn
  pub first : IsFirst turn before.running rest
  pub finishes : Finishes build turn.1 (record before { running = rest; time = turn.0; freed = Some turn.1 }) after

pub data Step (build : Build) (jobs : ℕ) (before after : Moment) : Type 0 where
  starts : Starts build jobs before after → Step build jobs before after
  passes : Passes build jobs before after → Step build jobs before after
  ends : Ends build jobs before after → Step build jobs before after

pub data Goes (build : Build) (jobs : ℕ) (before : Moment) : Moment → Type 0 where
  stays : Goes build jobs before before
  goes_on : {between after : Moment} → Goes build jobs before between → Step build jobs between after → Goes build jobs before after

-- Nothing runs, and nothing can start.
pub record IsOver (moment : Moment) : Type 0 where
  pub ready : moment.ready ≡ []
  pub running : moment.running ≡ []

-- Nothing has begun.
pub record IsFresh (build : Build) (moment : Moment) : Type 0 where
  pub time : moment.time ≡ 0
  pub freed : moment.freed ≡ None
  pub through_length : length moment.through ≡ edges_of build
  pub through : All (λ b. b ≡ false) moment.through
  pub ready : moment.ready ≡ []
  pub running : moment.running ≡ []
  pub used_length : length moment.used ≡ length build.depths.items
  pub used : All (λ n. n ≡ 0) moment.used
  pub waiting_length : length moment.waiting ≡ length build.depths.items
  pub waiting : All (λ (line : List Turn). line ≡ []) moment.waiting
  pub runs : moment.runs ≡ []

-- `Plan::AddTarget` up to 1.11, `Plan::ScheduleInitialEdges` from 1.12 on: the edges that wait for nobody have arrived, in
-- the order in which the plan took them up, or by their ranks.
pub record IsBegun (build : Build) (first : Moment) : Type 0 where
  pub fresh : Moment
  pub is_fresh : IsFresh build fresh
  pub turns : List Turn
  pub come : BecomeReady build (first_turn_of build) (λ edge. makers_of build edge ≡ []) turns
  pub arrive : ArriveAll build fresh turns first

-- THE SCHEDULE: the runs of a build with so many jobs, in the order in which they begin, and when it ends
pub record IsSchedule (build : Build) (jobs : ℕ) (runs : List Run) (end : ℕ) : Type 0 where
  pub first : Moment
  pub begun : IsBegun build first
  pub last : Moment
  pub goes : Goes build jobs first last
  pub over : IsOver last
  pub runs_are : last.runs ≡ runs
  pub end_is : last.time ≡ end
