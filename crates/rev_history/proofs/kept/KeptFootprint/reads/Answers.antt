use Rattle.std.proofs.Common.{◌≡◌, ℕ, List, length, take, sym, subst}
use Rattle.std.specs.List.{IsDistinct}
use Rattle.std.specs.Ordering.{eq_by_cmp}
use Rattle.rev_cells.specs.Places.{cells_at}
use Rattle.rev_cells.specs.declared.cell.Cell.{Cell}
use Rattle.rev_cells.specs.Keys.{cell_cmp}
use Rattle.rev_footprint.specs.Value.{FootprintValue}
use Rattle.rev_history.proofs.kept.KeptFootprint.reads.Goals as goal

pub returns-clause-first : goal.returns-clause-first
returns-clause-first c =
    let cells : List Cell = c.self.inside.cells.now.places in
    let written : List Cell = cells_at cells c.self.inside.step.now.places.written in
    subst (λ (f : FootprintValue). take (length f.writes) (cells_at cells c.read.result.now) ≡ f.writes) c.self.view_is
    (subst (λ (ps : List ℕ). take (length written) (cells_at cells ps) ≡ written) (sym c.read.ensures) c.self.invariant.first)

pub returns-clause-distinct : goal.returns-clause-distinct
returns-clause-distinct c =
    let cells : List Cell = c.self.inside.cells.now.places in
    subst (λ (ps : List ℕ). IsDistinct (eq_by_cmp cell_cmp) (cells_at cells ps)) (sym c.read.ensures) c.self.invariant.distinct
