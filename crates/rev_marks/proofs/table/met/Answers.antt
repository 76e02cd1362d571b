use Rattle.rev_marks.proofs.NoteLemmas.{met-cells, met-whole}
use Rattle.rev_marks.proofs.table.met.Goals as goal

pub returns-then-whole : goal.returns-then-whole
returns-then-whole c = λ i. met-whole c.args.table.now i c.args.beside c.args.whole c.args.reads.now c.args.writes.now c.if-whole.true

pub returns : goal.returns
returns c = λ i.
    met-cells c.args.table.now i c.args.beside c.args.whole c.args.reads.now c.args.writes.now c.marks_at.result c.marks_at-2.result c.marks_at-3.result c.if-whole.false
    (c.marks_at.ensures i) (c.marks_at-2.ensures i) (c.marks_at-3.ensures i)
