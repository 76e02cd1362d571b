use Rattle.std.proofs.Common.{◌≡◌, ◌+◌, ◌-◌, ◌∷◌, [], ℕ, List, arith, ap, map}
use Rattle.std.specs.List.{range_with_len}
use Rattle.rev_cells.specs.declared.cell.Cell.{Cell}
use Rattle.rev_cells.specs.declared.cell.Cell.TheVariants as cell
use Rattle.rev_footprint.proofs.AddsLemmas.{adds-as, adds-next, adds-nothing}
use Rattle.rev_footprint.proofs.WritesLemmas.{slots-next}
use Rattle.rev_footprint.proofs.of_event.add_slots.Goals as goal

-- so many slots of a pool from one on
from : ℕ → ℕ → ℕ → List Cell
from pool start count = map (cell.Slot pool) (range_with_len start count)

pub loop-slot-init : goal.loop-slot-init
unfolding from
loop-slot-init c =
    let start = c.args.slots.start in
    let none : start - start ≡ 0 = omega arith in
    let zero-is : 0 ≡ start - start = omega arith in
    let cells : [] ≡ from c.args.pool start (start - start) = ap (from c.args.pool start) zero-is in
    (adds-as c.args.reads.now.keys c.args.reads.now.keys [] (from c.args.pool start (start - start)) cells (adds-nothing c.args.reads.now.keys), omega (arith, none))

pub loop-slot-preserved : goal.loop-slot-preserved
unfolding from
loop-slot-preserved c =
    let start = c.args.slots.start in
    let slot = c.loop-slot.slot in (
      adds-next c.args.reads.now.keys c.loop-slot.reads.keys c.add.new.reads.keys (from c.args.pool start (slot - start)) (cell.Slot c.args.pool slot ∷ []) (from c.args.pool start (slot + 1 - start))
          c.loop-slot.invariant.0 c.in_ok-add.ensures (slots-next (cell.Slot c.args.pool) start slot c.loop-slot.auto.slot),
      omega (arith, c.loop-slot.auto.slot, c.loop-slot-test.true, c.loop-slot.invariant.1),
    )

pub returns : goal.returns
unfolding from
returns c =
    let start = c.args.slots.start in
    let slot = c.loop-slot.slot in
    let end = c.args.slots.end in
    let same : slot - start ≡ end - start = omega (arith, c.loop-slot.auto.slot, c.loop-slot.invariant.1, c.loop-slot-test.false) in
    adds-as c.args.reads.now.keys c.loop-slot.reads.keys (from c.args.pool start (slot - start)) (from c.args.pool start (end - start)) (ap (from c.args.pool start) same) c.loop-slot.invariant.0
