use Rattle.std.proofs.Common.{◌<◌, ◌&&◌, length, arith}
use Rattle.rev_marks.proofs.MaskLemmas.{mark-none}
use Rattle.rev_marks.specs.Table.{counted, is_marked}
use Rattle.rev_marks.proofs.TableLemmas.{seen-next}
use Rattle.rev_marks.proofs.table.marks_at.Goals as goal

pub loop-index-init : goal.loop-index-init
loop-index-init c = mark-none

pub loop-index-preserved : goal.loop-index-preserved
loop-index-preserved c = λ i.
    let within : c.loop-index.index < length c.args.cells.now = omega (arith, c.loop-index-test.true, c.len-index-end.ensures) in
    seen-next (λ k. counted c.args.beside k && is_marked c.args.masks.now.entries i k) c.args.cells.now c.loop-index.index i c.loop-index.marks c.counted_at-marks.result c.at.result.now
    within c.at.ensures (c.loop-index.invariant i) (c.counted_at-marks.ensures i)
