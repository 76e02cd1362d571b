use Rattle.rev_causal.proofs.RegistersLocal.{registers_are_local}
use Rattle.rev_causal.proofs.registers.laws.cells_decide.Goals as goal

pub returns : goal.returns
returns c = registers_are_local
