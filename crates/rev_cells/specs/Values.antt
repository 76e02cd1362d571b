-- What cells hold: the kinds of values, and their defaults.
use Rattle.std.specs.Prelude.{◌≡◌, Bool, true, false, not, ◌==◌, Option, Some, None, is_none, if◌then◌else◌}
use Rattle.rev_cells.specs.declared.cell.Cell.{Cell}
use Rattle.rev_cells.specs.declared.cell.Cell.TheVariants as cell
use Rattle.rev_cells.specs.declared.mark.Mark.{Mark}
use Rattle.rev_cells.specs.declared.mark.Mark.TheVariants as mark
use Rattle.rev_cells.specs.declared.value.Value.{Value}
use Rattle.rev_cells.specs.declared.value.Value.TheVariants as value

-- what a cell holds as long as nothing was written to it
abbrev pub default_of : Cell → Value
default_of (cell.Stamp path) = value.Stamp 0
default_of (cell.Mark edge) = value.Mark mark.Idle
default_of (cell.Job job) = value.Job None
default_of (cell.Slot pool place) = value.Slot None
default_of (cell.Depth pool) = value.Depth None
default_of (cell.Built path) = value.Built None
default_of (cell.Deps path) = value.Deps None
default_of cell.Halted = value.Halted false

-- the default of a value's kind
abbrev pub default_like : Value → Value
default_like (value.Stamp stamp) = value.Stamp 0
default_like (value.Mark m) = value.Mark mark.Idle
default_like (value.Job holder) = value.Job None
default_like (value.Slot holder) = value.Slot None
default_like (value.Depth depth) = value.Depth None
default_like (value.Built built) = value.Built None
default_like (value.Deps deps) = value.Deps None
default_like (value.Halted halted) = value.Halted false

-- a value is of the kind that the cell holds: the default of that kind is the cell's
abbrev pub Fits : Cell → Value → Type 0
Fits c v = default_like v ≡ default_of c

abbrev pub is_idle : Mark → Bool
is_idle mark.Idle = true
is_idle _ = false

-- whether a value is the default of its kind
abbrev pub is_default : Value → Bool
is_default (value.Stamp stamp) = stamp == 0
is_default (value.Mark m) = is_idle m
is_default (value.Job holder) = is_none holder
is_default (value.Slot holder) = is_none holder
is_default (value.Depth depth) = is_none depth
is_default (value.Built built) = is_none built
is_default (value.Deps deps) = is_none deps
is_default (value.Halted halted) = not halted

-- the value, or none where it is a default
abbrev pub unless_default : Value → Option Value
unless_default v = if is_default v then None else Some v
