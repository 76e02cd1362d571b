-- Dependences with the first cell by which they are.
use Rattle.std.specs.Prelude.{ℕ, Option}
use Rattle.rev_cells.specs.declared.cell.Cell.{Cell}
use Rattle.rev_history.specs.Timeline.{Timeline}
use Rattle.rev_held.specs.Dependence.{dependence_of}
use Rattle.rev_held.specs.declared.linked.Link.{Link}

abbrev pub link : ℕ → Option Cell → ℕ → Link
link one cell other = record { one = one; other = other; cell = cell }

-- from an earlier number to a later one, with the first cell by which the later event depends on the earlier one
abbrev pub link_between : Timeline → ℕ → ℕ → Link
link_between t one other = link one (dependence_of t one other) other
