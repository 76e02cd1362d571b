use Rattle.rev_causal.proofs.Occurrence as occurrence
use Rattle.rev_causal.proofs.RegistersLocal.{same_event_is}
use Rattle.rev_causal.specs.Registers.{same_event}
use Rattle.rev_causal.proofs.registers.laws.matching_is_exact.Goals as goal

pub returns : goal.returns
returns c = occurrence.matching_is_exact same_event same_event_is
