use Rattle.std.proofs.Common.{refl}
use Rattle.std.specs.Prelude.{bit_or}
use Rattle.rev_marks.proofs.NoteLemmas.{noted-cells, noted-whole}
use Rattle.rev_marks.proofs.table.note.Goals as goal

pub returns-then-whole : goal.returns-then-whole
returns-then-whole c = λ i f.
    noted-whole c.args.table.now _ c.args.mask c.args.beside c.args.whole c.args.reads.now c.args.writes.now c.if-whole.true refl refl refl refl i f

pub returns : goal.returns
returns c = λ i f.
    noted-cells c.args.table.now
    (record { all = bit_or c.args.table.now.all c.args.mask; whole = c.args.table.now.whole; read = c.mark_all.new.masks; written = c.mark_all-2.new.masks }) c.args.mask c.args.beside c.args.whole c.args.reads.now c.args.writes.now c.if-whole.false refl refl c.in_ok-mark_all.ensures c.in_ok-mark_all-2.ensures i f
