use Rattle.rev_causal.proofs.ByNumber as by_number
use Rattle.rev_causal.specs.Registers.{register_machine}
use Rattle.rev_causal.proofs.registers.laws.greatest_is_free.Goals as goal

pub returns : goal.returns
returns c = by_number.greatest_is_free register_machine
