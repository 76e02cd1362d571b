use Rattle.std.proofs.Common.{ℕ, List, length, sym, subst}
use Rattle.std.specs.List.{IsDistinct}
use Rattle.std.specs.Ordering.{eq_by_cmp}
use Rattle.rev_cells.specs.Places.{cells_at}
use Rattle.rev_cells.specs.declared.cell.Cell.{Cell}
use Rattle.rev_cells.specs.Keys.{cell_cmp}
use Rattle.rev_footprint.proofs.ListedLemmas.{distinct-take}
use Rattle.rev_history.proofs.kept.KeptFootprint.writes.Goals as goal

pub returns-clause-distinct : goal.returns-clause-distinct
returns-clause-distinct c =
    let cells : List Cell = c.self.inside.cells.now.places in
    let read : List Cell = cells_at cells c.self.inside.step.now.places.read in
    let written : List Cell = cells_at cells c.self.inside.step.now.places.written in
    subst (λ (ps : List ℕ). IsDistinct (eq_by_cmp cell_cmp) (cells_at cells ps)) (sym c.written.ensures)
    (subst (IsDistinct (eq_by_cmp cell_cmp)) c.self.invariant.first (distinct-take (length written) read c.self.invariant.distinct))
