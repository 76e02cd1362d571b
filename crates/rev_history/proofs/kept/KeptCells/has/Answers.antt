use Rattle.std.proofs.Common.{◌<◌, Bool, length, ap, sym, ◌∙◌, arith}
use Rattle.std.specs.Ordering.{eq_by_cmp}
use Rattle.rev_cells.specs.declared.cell.Cell.{Cell}
use Rattle.rev_cells.specs.Keys.{cell_cmp}
use Rattle.rev_cells.proofs.EntryLemmas.{cell_eq-is}
use Rattle.rev_footprint.proofs.ConflictLemmas.{none_here, some_here}
use Rattle.rev_history.proofs.kept.KeptCells.has.Goals as goal

pub returns-then-eq : goal.returns-then-eq
returns-then-eq c =
    let within : c.loop-index.index < length c.args.self.now = omega (arith, c.loop-index-test.true, c.len-index-end.ensures) in
    some_here (eq_by_cmp cell_cmp c.args.cell.now) c.args.self.now c.loop-index.index c.at.result.now within c.at.ensures
    (ap (λ (e : Cell → Cell → Bool). e c.args.cell.now c.at.result.now) (sym cell_eq-is) ∙ sym c.eq.ensures ∙ c.if-eq.true)

pub loop-index-preserved : goal.loop-index-preserved
loop-index-preserved c =
    let within : c.loop-index.index < length c.args.self.now = omega (arith, c.loop-index-test.true, c.len-index-end.ensures) in
    none_here (eq_by_cmp cell_cmp c.args.cell.now) c.args.self.now c.loop-index.index c.at.result.now within c.at.ensures
    (ap (λ (e : Cell → Cell → Bool). e c.args.cell.now c.at.result.now) (sym cell_eq-is) ∙ sym c.eq.ensures ∙ c.if-eq.false) c.loop-index.invariant
