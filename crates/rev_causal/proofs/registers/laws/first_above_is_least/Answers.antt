use Rattle.rev_causal.proofs.ByNumber as by_number
use Rattle.rev_causal.specs.Registers.{register_machine}
use Rattle.rev_causal.proofs.registers.laws.first_above_is_least.Goals as goal

pub returns : goal.returns
returns c = by_number.first_above_is_least register_machine
