use Rattle.rev_causal.proofs.Laws as laws
use Rattle.rev_causal.proofs.RegistersLocal.{registers_local}
use Rattle.rev_causal.proofs.registers.laws.free_exactly_where_last.Goals as goal

pub returns : goal.returns
returns c = laws.free_exactly_where_last _ registers_local
