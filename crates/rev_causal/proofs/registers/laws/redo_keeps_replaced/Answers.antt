use Rattle.rev_causal.proofs.Replaced as replaced
use Rattle.rev_causal.proofs.RegistersLocal.{cell_total, cell_exact, registers_are_local}
use Rattle.rev_causal.specs.Registers.{registers}
use Rattle.rev_causal.proofs.registers.laws.redo_keeps_replaced.Goals as goal

pub returns : goal.returns
returns c = replaced.redo_keeps_replaced cell_total cell_exact registers registers_are_local
