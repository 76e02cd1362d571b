-- Cells as numbers, which gives their order and their test of equality.
use Rattle.std.specs.Prelude.{◌≡◌, ℕ, ◌==◌, List, [], ◌∷◌, if◌then◌else◌, refl}
use Rattle.std.specs.declared.cmp.Ordering.{Ordering}
use Rattle.std.specs.Ordering.{nat_cmp}
use Rattle.std.specs.Cmp.Lexicographic.{slice_cmp}
use Rattle.std.specs.Coded.{Coded, code_by, coded_list, coded_ℕ}
use Rattle.rev_cells.specs.declared.cell.Cell.{Cell}
use Rattle.rev_cells.specs.declared.cell.Cell.TheVariants as cell

-- a cell as numbers: its kind, and then what it names
abbrev pub cell_key : Cell → List ℕ
cell_key (cell.Stamp path) = 0 ∷ path
cell_key (cell.Mark edge) = 1 ∷ edge ∷ []
cell_key (cell.Job job) = 2 ∷ job ∷ []
cell_key (cell.Slot pool place) = 3 ∷ pool ∷ place ∷ []
cell_key (cell.Depth pool) = 4 ∷ pool ∷ []
cell_key (cell.Built path) = 5 ∷ path
cell_key (cell.Deps path) = 6 ∷ path
cell_key cell.Halted = 7 ∷ []

abbrev pub first_of : List ℕ → ℕ
first_of [] = 0
first_of (n ∷ ns) = n

abbrev pub second_of : List ℕ → ℕ
second_of [] = 0
second_of (n ∷ ns) = first_of ns

-- the cell of a kind that names these
abbrev pub cell_naming : ℕ → List ℕ → Cell
cell_naming kind names =
    if kind == 0 then cell.Stamp names else if kind == 1 then cell.Mark (first_of names) else if kind == 2
    then cell.Job (first_of names)
    else if kind == 3 then cell.Slot (first_of names) (second_of names) else if kind == 4
    then cell.Depth (first_of names)
    else if kind == 5 then cell.Built names else if kind == 6 then cell.Deps names else cell.Halted

-- the cell of such numbers
abbrev pub cell_of : List ℕ → Cell
cell_of [] = cell.Halted
cell_of (kind ∷ names) = cell_naming kind names

pub cell_of-cell_key : (c : Cell) → cell_of (cell_key c) ≡ c
cell_of-cell_key (cell.Stamp path) = refl
cell_of-cell_key (cell.Mark edge) = refl
cell_of-cell_key (cell.Job job) = refl
cell_of-cell_key (cell.Slot pool place) = refl
cell_of-cell_key (cell.Depth pool) = refl
cell_of-cell_key (cell.Built path) = refl
cell_of-cell_key (cell.Deps path) = refl
cell_of-cell_key cell.Halted = refl

-- by kind, and then by what is named
abbrev pub cell_cmp : Cell → Cell → Ordering
cell_cmp a b = slice_cmp nat_cmp (cell_key a) (cell_key b)

abbrev pub coded_cell : Coded Cell
coded_cell = code_by (List ℕ) (coded_list coded_ℕ) cell_key cell_of cell_of-cell_key
