-- What holds of every state that is written and read.
use Rattle.std.specs.Prelude.{◌≡◌, ◌≢◌, ℕ, Bool, List, Option}
use Rattle.std.specs.FinMap as map
use Rattle.rev_cells.specs.declared.cell.Cell.{Cell}
use Rattle.rev_cells.specs.declared.cell.Cell.TheVariants as cell
use Rattle.rev_cells.specs.declared.mark.Mark.{Mark}
use Rattle.rev_cells.specs.declared.value.BuiltRecord.{BuiltRecord}
use Rattle.rev_cells.specs.declared.value.DepsRecord.{DepsRecord}
use Rattle.rev_cells.specs.declared.value.Value.{Value}
use Rattle.rev_cells.specs.declared.value.Value.TheVariants as value
use Rattle.rev_cells.specs.State.{State, set, value_at, stamp_of, mark_of, job_of, slot_of, given_depth_of, built_of, deps_of, is_halted}
use Rattle.rev_cells.specs.Values.{default_of}

-- each word reads what was written to its cell
pub record WrittenIsRead : Type 0 where
  pub stamps : (s : State) (path : List ℕ) (stamp : ℕ)
      → stamp_of (set s (cell.Stamp path) (value.Stamp stamp)) path ≡ stamp
  pub marks : (s : State) (edge : ℕ) (mark : Mark) → mark_of (set s (cell.Mark edge) (value.Mark mark)) edge ≡ mark
  pub jobs : (s : State) (job : ℕ) (holder : Option ℕ) → job_of (set s (cell.Job job) (value.Job holder)) job ≡ holder
  pub slots : (s : State) (pool place : ℕ) (holder : Option ℕ)
      → slot_of (set s (cell.Slot pool place) (value.Slot holder)) pool place ≡ holder
  pub depths : (s : State) (pool : ℕ) (depth : Option ℕ)
      → given_depth_of (set s (cell.Depth pool) (value.Depth depth)) pool ≡ depth
  pub built : (s : State) (path : List ℕ) (log : Option BuiltRecord)
      → built_of (set s (cell.Built path) (value.Built log)) path ≡ log
  pub deps : (s : State) (path : List ℕ) (log : Option DepsRecord)
      → deps_of (set s (cell.Deps path) (value.Deps log)) path ≡ log
  pub halted : (s : State) (halted : Bool) → is_halted (set s cell.Halted (value.Halted halted)) ≡ halted

-- a write changes no other cell
abbrev pub OthersStay : Type 0
OthersStay = (s : State) (c q : Cell) (v : Value) → q ≢ c → value_at (set s c v) q ≡ value_at s q

-- where nothing was written, each cell holds its default
abbrev pub DefaultsAtFirst : Type 0
DefaultsAtFirst = (c : Cell) → value_at map.empty c ≡ default_of c
