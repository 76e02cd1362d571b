use Rattle.std.proofs.Common.{sym, ◌∙◌}
use Rattle.rev_causal.proofs.RegistersLocal.{found-at, missed-at, get-past}
use Rattle.rev_causal.proofs.registers.value_in.Goals as goal

pub returns-then-same_cell : goal.returns-then-same_cell
returns-then-same_cell c =
    sym (found-at c.args.table.now c.loop-write.write-index _ c.args.cell c.loop-write-test.true (sym c.same_cell.ensures ∙ c.if-same_cell.true)) ∙ c.loop-write.invariant

pub loop-write-preserved : goal.loop-write-preserved
loop-write-preserved c =
    sym (missed-at c.args.table.now c.loop-write.write-index _ c.args.cell c.loop-write-test.true (sym c.same_cell.ensures ∙ c.if-same_cell.false)) ∙ c.loop-write.invariant

pub returns : goal.returns
returns c = sym (get-past c.args.table.now c.loop-write.write-index c.args.cell c.loop-write-test.false) ∙ c.loop-write.invariant
