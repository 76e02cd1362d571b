use Rattle.rev_causal.proofs.ByNumber as by_number
use Rattle.rev_causal.specs.Registers.{register_machine}
use Rattle.rev_causal.proofs.registers.laws.first_above_is_none.Goals as goal

pub returns : goal.returns
returns c = by_number.first_above_is_none register_machine
