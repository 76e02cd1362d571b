-- How a footprint is held: the cells that are read in one list, the written ones first.
use Rattle.std.specs.Prelude.{◌≤◌, length, take}
use Rattle.std.specs.FinSet as cells
use Rattle.std.specs.List.{IsDistinct}
use Rattle.std.specs.Ordering.{eq_by_cmp}
use Rattle.rev_cells.specs.Keys.{cell_cmp}
use Rattle.rev_footprint.specs.declared.footprints.Footprint.TheInside.{Inside}
use Rattle.rev_footprint.specs.Value.{FootprintValue}

abbrev pub value_of : Inside → FootprintValue
value_of a =
    record { reads = cells.from_list a.cells.items; writes = take a.written a.cells.items; whole = a.whole }

-- so many are there as are written, and each cell stands once
pub record IsSound (a : Inside) : Type 0 where
  pub within : a.written ≤ length a.cells.items
  pub distinct : IsDistinct (eq_by_cmp cell_cmp) a.cells.items
