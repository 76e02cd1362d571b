use Rattle.rev_causal.proofs.Inverted as inverted
use Rattle.rev_causal.proofs.RegistersLocal.{registers_local, equal_events_conflict, same_event_is}
use Rattle.rev_causal.specs.Registers.{same_event}
use Rattle.rev_causal.proofs.registers.laws.order_check_is_exact.Goals as goal

pub returns : goal.returns
returns c = inverted.order_check_is_exact _ registers_local equal_events_conflict same_event same_event_is
