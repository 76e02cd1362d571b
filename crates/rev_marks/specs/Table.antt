-- The masks of events, under the cells that they read and write.
use Rattle.std.specs.Prelude.{◌≡◌, ℕ, Bool, not, ◌&&◌, ◌||◌, List, filter, if◌then◌else◌}
use Rattle.std.specs.List.{list_any}
use Rattle.std.specs.Map.{lookup}
use Rattle.rev_causal.specs.Store.{Footprint, Footprint.Whole, Footprint.Cells, among, conflict}
use Rattle.rev_cells.specs.declared.cell.Cell.{Cell}
use Rattle.rev_cells.specs.Keys.{cell_cmp}
use Rattle.rev_cells.specs.Same.{cell_eq}
use Rattle.rev_held.specs.Beside.{is_place}
use Rattle.rev_marks.specs.declared.table.Table.{Table}
use Rattle.rev_marks.specs.Masks.{has_mark, or_none}

-- a cell counts, where jobs and slots are left out
abbrev pub counted : Bool → Cell → Bool
counted beside c = not (beside && is_place c)

-- a footprint with those cells that count
abbrev pub viewed : Bool → Footprint Cell → Footprint Cell
viewed beside Whole = Whole
viewed beside (Cells reads writes) = Cells (filter (counted beside) reads) (filter (counted beside) writes)

-- a footprint by its parts
abbrev pub print_by : Bool → List Cell → List Cell → Footprint Cell
print_by whole reads writes = if whole then Whole else Cells reads writes

-- AS THEY ARE FOUND
abbrev pub Masks : Type 0
Masks = List (Cell × ℕ)

-- the mask under a cell, where there is none 0
abbrev pub mask_of : Masks → Cell → ℕ
mask_of masks c = or_none (lookup (cell_eq c) masks)

-- whether the mask under a cell has mark i
abbrev pub is_marked : Masks → ℕ → Cell → Bool
is_marked masks i c = has_mark i (mask_of masks c)

-- the same masks, and under some cells besides the marks of one more
abbrev pub Marks : Masks → Masks → List Cell → ℕ → Type 0
Marks old new cells mask = (i : ℕ) (c : Cell)
    → is_marked new i c ≡ (is_marked old i c || (has_mark i mask && among cell_cmp cells c))

-- a noted event with mark i conflicts with a footprint
abbrev pub is_met : Table → ℕ → Footprint Cell → Bool
is_met table i Whole = has_mark i table.all
is_met table i (Cells reads writes) =
    has_mark i table.whole
    || (list_any (is_marked table.written.entries i) reads
    || (list_any (is_marked table.written.entries i) writes || list_any (is_marked table.read.entries i) writes))

-- one more event was noted
abbrev pub IsNoted : Table → Table → Footprint Cell → ℕ → Type 0
IsNoted old new g mask = (i : ℕ) (f : Footprint Cell)
    → is_met new i f ≡ (is_met old i f || (has_mark i mask && conflict cell_cmp g f))
