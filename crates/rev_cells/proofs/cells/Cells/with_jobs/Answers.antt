use Rattle.std.proofs.Common.{sym, subst}
use Rattle.rev_cells.specs.Sound.{AllFit}
use Rattle.rev_cells.proofs.EntryLemmas.{distinct_by_cmp}
use Rattle.rev_cells.proofs.cells.Cells.with_jobs.Goals as goal

pub invariant_of-result : goal.invariant_of-result
invariant_of-result c = record { distinct = distinct_by_cmp _ c.new.ensures.unique; fit = subst AllFit (sym c.new.ensures.empty) (λ q. tt) }
