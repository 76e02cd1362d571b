use Rattle.std.proofs.Common.{Result, Ok, Err}
use Rattle.std.specs.Prelude.{OnOk}
use Rattle.rev_marks.proofs.SameLemmas.{noted-same}
use Rattle.rev_marks.proofs.cones.note_by.Goals as goal

on-ok : {A E P Q : Type 0} (r : Result A E) → (P → Q) → OnOk r P → OnOk r Q
on-ok (Ok a) f h = f h
on-ok (Err e) f h = h

pub returns : goal.returns
returns c =
    on-ok c.note.result
    (noted-same c.args.footprint.now c.args.beside c.whole.result c.reads.result c.writes.result c.whole.ensures c.reads.ensures.same c.writes.ensures.same c.args.table.now c.note.new.table c.args.mask)
    c.note.ensures
