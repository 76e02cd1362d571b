use Rattle.rev_causal.proofs.ByNumber as by_number
use Rattle.rev_causal.proofs.RegistersLocal.{registers_local}
use Rattle.rev_causal.proofs.registers.laws.cone_is_least.Goals as goal

pub returns : goal.returns
returns c = by_number.cone_is_least _ registers_local
