use Rattle.std.proofs.Common.{sym, subst}
use Rattle.std.specs.List.{IsDistinct}
use Rattle.std.specs.Ordering.{eq_by_cmp}
use Rattle.rev_cells.specs.Keys.{cell_cmp}
use Rattle.rev_cells.proofs.EntryLemmas.{distinct_by_cmp}
use Rattle.rev_footprint.proofs.listed.in_order.Goals as goal

pub returns-clause-distinct : goal.returns-clause-distinct
returns-clause-distinct c =
    subst (IsDistinct (eq_by_cmp cell_cmp)) (sym c.in_ok-listed.ensures) (distinct_by_cmp c.args.cells.keys c.len-cells.ensures.unique)
