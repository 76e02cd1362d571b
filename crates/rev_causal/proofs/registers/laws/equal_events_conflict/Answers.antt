use Rattle.rev_causal.proofs.RegistersLocal.{equal_events_conflict}
use Rattle.rev_causal.proofs.registers.laws.equal_events_conflict.Goals as goal

pub returns : goal.returns
returns c = equal_events_conflict
