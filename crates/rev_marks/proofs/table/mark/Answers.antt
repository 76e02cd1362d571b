use Rattle.std.proofs.Common.{refl}
use Rattle.rev_marks.proofs.TableLemmas.{marks-added, marks-had}
use Rattle.rev_marks.proofs.table.mark.Goals as goal

pub returns-then-new-old : goal.returns-then-new-old
returns-then-new-old c =
    marks-had c.args.masks.now.entries c.args.cell.now c.mask_at-old.result _ c.args.mask c.mask_at-old.ensures refl c.if-new-old.true

pub returns : goal.returns
returns c =
    marks-added c.args.masks.now.entries c.insert.new.self.entries c.args.cell.now c.in_ok-copy.field-0 c.mask_at-old.result _ c.args.mask c.mask_at-old.ensures refl c.in_ok-copy.ensures
    c.in_ok-insert.ensures.updates.0
