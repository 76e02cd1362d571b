use Rattle.rev_causal.proofs.ByNumber as by_number
use Rattle.rev_causal.proofs.RegistersLocal.{registers_local}
use Rattle.rev_causal.proofs.registers.laws.neighbours_exchange.Goals as goal

pub returns : goal.returns
returns c = by_number.neighbours_exchange _ registers_local
