-- A MOMENT OF A BUILD, as Ninja has it in mind. The field of Ninja's own that each stands for is named in brackets.
use Rattle.std.specs.Prelude.{◌≡◌, ◌≢◌, ℕ, Bool, Option, List, [], length, slice_index_or}
use Rattle.rev_schedule.specs.Turns.{Turn}
use Rattle.rev_schedule.specs.declared.job.Run.{Run}

pub record Moment : Type 0 where
  -- in milliseconds
  pub time : ℕ
  -- the edge whose run ended last
  pub freed : Option ℕ
  -- for each edge whether its outputs are ready [outputs_ready_]
  pub through : List Bool
  -- the edges that may start, by their ranks [ready_]
  pub ready : List Turn
  -- the edges that run, by the ends of their runs
  pub running : List Turn
  -- for each pool how many of its edges are ready or run [current_use_]
  pub used : List ℕ
  -- for each pool the edges that wait for a place, by their ranks [delayed_]
  pub waiting : List (List Turn)
  -- the runs that have begun
  pub runs : List Run

-- Everything but lines and pools stays.
pub record OnlyQueues (before after : Moment) : Type 0 where
  pub time : after.time ≡ before.time
  pub freed : after.freed ≡ before.freed
  pub through : after.through ≡ before.through
  pub running : after.running ≡ before.running
  pub runs : after.runs ≡ before.runs

-- One line of several changes.
pub record OnlyLine (pool : ℕ) (before after : List (List Turn)) : Type 0 where
  pub length_is : length after ≡ length before
  pub others : (other : ℕ) → other ≢ pool → slice_index_or after other [] ≡ slice_index_or before other []

abbrev pub line_of : Moment → ℕ → List Turn
line_of moment pool = slice_index_or moment.waiting pool []
