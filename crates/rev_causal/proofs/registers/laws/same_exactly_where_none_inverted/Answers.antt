use Rattle.rev_causal.proofs.Laws as laws
use Rattle.rev_causal.proofs.RegistersLocal.{registers_local}
use Rattle.rev_causal.proofs.registers.laws.same_exactly_where_none_inverted.Goals as goal

pub returns : goal.returns
returns c = laws.same_exactly_where_none_inverted _ registers_local
