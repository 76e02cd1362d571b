-- What a kept footprint lends.
use Rattle.std.specs.FinSet as set
use Rattle.rev_causal.specs.Store.{Footprint, Footprint.Cells}
use Rattle.rev_cells.specs.declared.cell.Cell.{Cell}
use Rattle.rev_footprint.specs.Value.{FootprintValue}

-- the named cells of a footprint; of a whole event those that it writes
abbrev pub named_cells : FootprintValue → Footprint Cell
named_cells f = Cells (set.items f.reads) f.writes
