use Rattle.std.proofs.Common.{List, take, sym, subst}
use Rattle.std.specs.List.{IsDistinct}
use Rattle.std.specs.Ordering.{eq_by_cmp}
use Rattle.rev_cells.specs.declared.cell.Cell.{Cell}
use Rattle.rev_cells.specs.Keys.{cell_cmp}
use Rattle.rev_footprint.proofs.ListedLemmas.{distinct-take}
use Rattle.rev_footprint.proofs.footprints.Footprint.writes.Goals as goal

pub returns-clause-distinct : goal.returns-clause-distinct
returns-clause-distinct c =
    subst (λ (cells : List Cell). IsDistinct (eq_by_cmp cell_cmp) (take c.self.inside.written cells)) (sym c.deref.ensures.value)
    (distinct-take c.self.inside.written c.self.inside.cells.items c.self.invariant.distinct)
