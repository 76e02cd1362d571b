-- What is written, as cells and values apart.
use Rattle.std.proofs.Common.{◌≡◌, List, [], ◌∷◌, map, length, refl, ap, arith}
use Rattle.rev_cells.specs.declared.cell.Cell.{Cell}
use Rattle.rev_cells.specs.declared.value.Value.{Value}
use Rattle.rev_cells.specs.Effects.{cells_of}
use Rattle.rev_cells.specs.Places.{with_values}

pub with_parts : (ws : List (Cell × Value)) → with_values (cells_of ws) (map (λ (w : Cell × Value). w.1) ws) ≡ ws
with_parts [] = refl
with_parts (w ∷ ws) = ap (λ (xs : List (Cell × Value)). w ∷ xs) (with_parts ws)

pub as_many_values : (ws : List (Cell × Value)) → length (map (λ (w : Cell × Value). w.1) ws) ≡ length (cells_of ws)
as_many_values [] = refl
as_many_values (w ∷ ws) = let rest : length (map (λ (x : Cell × Value). x.1) ws) ≡ length (cells_of ws) = as_many_values ws in omega arith
