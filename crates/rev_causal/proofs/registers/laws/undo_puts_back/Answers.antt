use Rattle.rev_causal.proofs.Replaced as replaced
use Rattle.rev_causal.proofs.RegistersLocal.{cell_total, cell_exact, registers_are_local}
use Rattle.rev_causal.specs.Registers.{registers}
use Rattle.rev_causal.proofs.registers.laws.undo_puts_back.Goals as goal

pub returns : goal.returns
returns c = replaced.undo_puts_back cell_total cell_exact registers registers_are_local
