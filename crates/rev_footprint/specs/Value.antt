-- Footprints as values.
use Rattle.std.specs.Prelude.{Bool, List, ◌++◌, refl, if◌then◌else◌}
use Rattle.std.specs.Coded.{Coded, code_by, coded×, coded_list, coded_bool}
use Rattle.std.specs.FinSet as cells
use Rattle.rev_cells.specs.declared.cell.Cell.{Cell}
use Rattle.rev_cells.specs.Keys.{cell_cmp, coded_cell}
use Rattle.rev_causal.specs.Store.{Footprint, Footprint.Whole, Footprint.Cells, is_accessed}

-- The cells that are read, those that are written among them; the written ones, in the order of the effect; and whether
-- the event is whole: it reads every cell, and `reads` names those alone that it writes.
pub record FootprintValue : Type 0 where
  pub reads : cells.FinSet cell_cmp
  pub writes : List Cell
  pub whole : Bool

abbrev pub footprint_code : Coded FootprintValue
footprint_code =
    code_by (cells.FinSet cell_cmp × (List Cell × Bool))
    (coded× (cells.code coded_cell) (coded× (coded_list coded_cell) coded_bool))
    (λ f. (f.reads, (f.writes, f.whole))) (λ p. record { reads = p.0; writes = p.1.0; whole = p.1.1 }) (λ _. refl)

-- the same for the theory of undo
abbrev pub print_of : FootprintValue → Footprint Cell
print_of f = if f.whole then Whole else Cells (cells.items f.reads) f.writes

-- the cell is read or written; of a whole event, it is written
abbrev pub names : FootprintValue → Cell → Bool
names f c = is_accessed cell_cmp (Cells (cells.items f.reads) f.writes) c

abbrev pub footprint_by : Bool → List Cell → List Cell → FootprintValue
footprint_by whole besides writes =
    record { reads = cells.from_list (writes ++ besides); writes = writes; whole = whole }
