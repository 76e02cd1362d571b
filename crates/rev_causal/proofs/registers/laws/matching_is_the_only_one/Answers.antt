use Rattle.rev_causal.proofs.Inverted as inverted
use Rattle.rev_causal.proofs.RegistersLocal.{registers_local, equal_events_conflict}
use Rattle.rev_causal.proofs.registers.laws.matching_is_the_only_one.Goals as goal

pub returns : goal.returns
returns c = inverted.matching_is_the_only_one _ registers_local equal_events_conflict
