use Rattle.std.proofs.Common.{sym, ◌∙◌}
use Rattle.rev_marks.specs.Table.{counted, mask_of}
use Rattle.rev_marks.proofs.TableLemmas.{counted-mark, uncounted-mark}
use Rattle.rev_marks.proofs.table.counted_at.Goals as goal

pub returns-then-counts : goal.returns-then-counts
returns-then-counts c = λ i.
    counted-mark i (counted c.args.beside c.args.cell.now) c.mask_at.result (mask_of c.args.masks.now.entries c.args.cell.now) (sym c.counts.ensures ∙ c.if-counts.true) c.mask_at.ensures

pub returns-else-counts : goal.returns-else-counts
returns-else-counts c = λ i.
    uncounted-mark i (counted c.args.beside c.args.cell.now) (mask_of c.args.masks.now.entries c.args.cell.now) (sym c.counts.ensures ∙ c.if-counts.false)
