use Rattle.rev_causal.proofs.Inverted as inverted
use Rattle.rev_causal.proofs.RegistersLocal.{registers_local}
use Rattle.rev_causal.proofs.registers.laws.matched_exactly_where_none_inverted.Goals as goal

pub returns : goal.returns
returns c = inverted.matched_exactly_where_none_inverted _ registers_local
