-- The state of a build: a finite map from cells to values, in which a cell at its default is absent. It is read by
-- one word for each kind of cell.
use Rattle.std.specs.Prelude.{ℕ, Bool, false, List, Option, Some, None, if◌then◌else◌}
use Rattle.std.specs.FinMap.{FinMap}
use Rattle.std.specs.FinMap as map
use Rattle.rev_cells.specs.declared.cell.Cell.{Cell}
use Rattle.rev_cells.specs.declared.cell.Cell.TheVariants as cell
use Rattle.rev_cells.specs.declared.mark.Mark.{Mark}
use Rattle.rev_cells.specs.declared.mark.Mark.TheVariants as mark
use Rattle.rev_cells.specs.declared.value.BuiltRecord.{BuiltRecord}
use Rattle.rev_cells.specs.declared.value.DepsRecord.{DepsRecord}
use Rattle.rev_cells.specs.declared.value.Value.{Value}
use Rattle.rev_cells.specs.declared.value.Value.TheVariants as value
use Rattle.rev_cells.specs.Keys.{cell_cmp}
use Rattle.rev_cells.specs.Values.{default_of, is_default}

-- what each cell that is not at its default holds
abbrev pub State : Type 0
State = FinMap cell_cmp Value

-- the state with this value at the cell
abbrev pub set : State → Cell → Value → State
set state c v = if is_default v then map.remove state c else map.insert state c v

-- the value that there is, or the default of the cell
abbrev pub default_or : Cell → Option Value → Value
default_or c None = default_of c
default_or c (Some v) = v

-- what a cell holds
abbrev pub value_at : State → Cell → Value
value_at state c = default_or c (map.get state c)

abbrev pub stamp_in : Value → ℕ
stamp_in (value.Stamp stamp) = stamp
stamp_in _ = 0

abbrev pub mark_in : Value → Mark
mark_in (value.Mark m) = m
mark_in _ = mark.Idle

abbrev pub job_in : Value → Option ℕ
job_in (value.Job holder) = holder
job_in _ = None

abbrev pub slot_in : Value → Option ℕ
slot_in (value.Slot holder) = holder
slot_in _ = None

abbrev pub depth_in : Value → Option ℕ
depth_in (value.Depth depth) = depth
depth_in _ = None

abbrev pub built_in : Value → Option BuiltRecord
built_in (value.Built built) = built
built_in _ = None

abbrev pub deps_in : Value → Option DepsRecord
deps_in (value.Deps deps) = deps
deps_in _ = None

abbrev pub halted_in : Value → Bool
halted_in (value.Halted halted) = halted
halted_in _ = false

-- the stamp of a path, 0 where the file is missing
abbrev pub stamp_of : State → List ℕ → ℕ
stamp_of state path = stamp_in (value_at state (cell.Stamp path))

-- the mark of an edge
abbrev pub mark_of : State → ℕ → Mark
mark_of state edge = mark_in (value_at state (cell.Mark edge))

-- the edge whose command a job runs
abbrev pub job_of : State → ℕ → Option ℕ
job_of state job = job_in (value_at state (cell.Job job))

-- the edge that has a place in a pool
abbrev pub slot_of : State → ℕ → ℕ → Option ℕ
slot_of state pool place = slot_in (value_at state (cell.Slot pool place))

-- the depth that a pool was given, none where it is as in the manifest
abbrev pub given_depth_of : State → ℕ → Option ℕ
given_depth_of state pool = depth_in (value_at state (cell.Depth pool))

-- the build log's record of a path
abbrev pub built_of : State → List ℕ → Option BuiltRecord
built_of state path = built_in (value_at state (cell.Built path))

-- the deps log's record of a path
abbrev pub deps_of : State → List ℕ → Option DepsRecord
deps_of state path = deps_in (value_at state (cell.Deps path))

-- whether the build was interrupted
abbrev pub is_halted : State → Bool
is_halted state = halted_in (value_at state cell.Halted)
