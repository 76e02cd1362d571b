use Rattle.rev_causal.proofs.ByNumber as by_number
use Rattle.rev_causal.proofs.RegistersLocal.{registers_local}
use Rattle.rev_causal.proofs.registers.laws.same_refusals.Goals as goal

pub returns : goal.returns
returns c = by_number.same_refusals _ registers_local
