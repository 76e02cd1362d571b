use Rattle.rev_causal.proofs.ByNumber as by_number
use Rattle.rev_causal.proofs.RegistersLocal.{registers_local}
use Rattle.rev_causal.proofs.registers.laws.both_forms_agree.Goals as goal

pub returns : goal.returns
returns c = by_number.both_forms_agree _ registers_local
