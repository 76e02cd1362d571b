use Rattle.rev_causal.proofs.RegistersLocal.{registers_local}
use Rattle.rev_causal.proofs.registers.laws.table_is_local.Goals as goal

pub returns : goal.returns
returns c = registers_local
