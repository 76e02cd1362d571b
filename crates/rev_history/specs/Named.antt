-- Footprints by places, and the same by the cells there.
use Rattle.std.specs.Prelude.{◌≡◌, ℕ, List, [], ◌∷◌}
use Rattle.std.specs.List.{IsDistinct}
use Rattle.std.specs.Ordering.{eq_by_cmp}
use Rattle.rev_accesses.specs.Value.{Prints}
use Rattle.rev_causal.specs.Store.{Footprint, Footprint.Whole, Footprint.Cells, among}
use Rattle.rev_cells.specs.declared.cell.Cell.{Cell}
use Rattle.rev_cells.specs.Keys.{cell_cmp}
use Rattle.rev_cells.specs.Places.{AreWithin, cells_at}

-- footprints by cells, under their numbers
abbrev pub CellPrints : Type 0
CellPrints = List (ℕ × Footprint Cell)

-- a footprint writes exactly the cells at these places, in their order, and reads exactly those at the others
pub record AreCellsAt (cells : List Cell) (reads writes : List ℕ) (f : Footprint Cell) : Type 0 where
  pub listed : List Cell
  pub is : f ≡ Cells listed (cells_at cells writes)
  pub same : (c : Cell) → among cell_cmp listed c ≡ among cell_cmp (cells_at cells reads) c
  pub read : AreWithin cells reads
  pub written : AreWithin cells writes

-- a footprint by places is one by cells
abbrev pub IsNamed : List Cell → Footprint ℕ → Footprint Cell → Type 0
IsNamed cells Whole f = f ≡ Whole
IsNamed cells (Cells reads writes) f = AreCellsAt cells reads writes f

-- under the same numbers the same footprints
abbrev pub ArePaired : List Cell → Prints → CellPrints → Type 0
ArePaired cells [] [] = Unit {0}
ArePaired cells [] (f ∷ fs) = ⊥
ArePaired cells (g ∷ gs) [] = ⊥
ArePaired cells (g ∷ gs) (f ∷ fs) = (g.0 ≡ f.0) × (IsNamed cells g.1 f.1 × ArePaired cells gs fs)

-- and no cell has two places
pub record AreNamed (cells : List Cell) (prints : Prints) (named : CellPrints) : Type 0 where
  pub distinct : IsDistinct (eq_by_cmp cell_cmp) cells
  pub paired : ArePaired cells prints named
