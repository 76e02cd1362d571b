use Rattle.std.proofs.Common.{List, length, sym, ap, ◌∙◌}
use Rattle.rev_cells.specs.declared.cell.Cell.{Cell}
use Rattle.rev_cells.proofs.PlacesLemmas.{length_cells}
use Rattle.rev_history.proofs.kept.KeptCells.len.Goals as goal

pub returns : goal.returns
returns c =
    sym (length_cells c.self.inside.cells.now.places c.self.inside.places.now c.self.invariant)
    ∙ ap (λ (xs : List Cell). length xs) c.self.view_is
