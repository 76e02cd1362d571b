-- Cells by their places.
use Rattle.std.specs.Prelude.{◌≡◌, ℕ, ◌<◌, List, [], ◌∷◌, ◌++◌, length, slice_get}
use Rattle.std.specs.List.{AllByRecursion, cons_option}
use Rattle.rev_cells.specs.declared.cell.Cell.{Cell}
use Rattle.rev_cells.specs.declared.value.Value.{Value}

-- the cells at some places of a list; a place behind its end has none
abbrev pub cells_at : List Cell → List ℕ → List Cell
cells_at cells [] = []
cells_at cells (p ∷ ps) = cons_option (slice_get cells p) (cells_at cells ps)

-- each place is one of the list
abbrev pub AreWithin : List Cell → List ℕ → Type 0
AreWithin cells places = AllByRecursion (λ p. p < length cells) places

-- cells that were there keep their places: others come behind them
pub record IsGrown (old new : List Cell) : Type 0 where
  pub more : List Cell
  pub is : new ≡ old ++ more

-- cells, each with its value
abbrev pub with_values : List Cell → List Value → List (Cell × Value)
with_values [] vs = []
with_values (c ∷ cs) [] = []
with_values (c ∷ cs) (v ∷ vs) = (c, v) ∷ with_values cs vs
