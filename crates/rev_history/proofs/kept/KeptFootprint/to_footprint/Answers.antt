use Rattle.std.proofs.Common.{List, length, ap, sym, subst, ◌∙◌}
use Rattle.std.specs.List.{IsDistinct}
use Rattle.std.specs.Ordering.{eq_by_cmp}
use Rattle.rev_cells.specs.declared.cell.Cell.{Cell}
use Rattle.rev_cells.specs.Keys.{cell_cmp}
use Rattle.rev_history.proofs.KeptLemmas.{copied_print, copied_within}
use Rattle.rev_history.proofs.kept.KeptFootprint.to_footprint.Goals as goal

pub of-requires-clause-within : goal.of-requires-clause-within
of-requires-clause-within c =
    copied_within c.args.self.now c.reads.result c.in_ok-read.read.items c.len.result c.in_ok-read.ensures c.reads.ensures.first (c.len.ensures ∙ ap (λ (xs : List Cell). length xs) c.writes.ensures.same)

pub of-requires-clause-distinct : goal.of-requires-clause-distinct
of-requires-clause-distinct c = subst (IsDistinct (eq_by_cmp cell_cmp)) (sym c.in_ok-read.ensures) c.reads.ensures.distinct

pub returns : goal.returns
returns c =
    c.of.ensures
    ∙ copied_print c.args.self.now c.reads.result c.in_ok-read.read.items c.len.result c.in_ok-read.ensures c.reads.ensures.first (c.len.ensures ∙ ap (λ (xs : List Cell). length xs) c.writes.ensures.same)
    c.whole.result c.reads.ensures.same c.whole.ensures
