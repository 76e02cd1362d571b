use Rattle.rev_causal.proofs.ByNumber as by_number
use Rattle.rev_causal.specs.Registers.{register_machine}
use Rattle.rev_causal.proofs.registers.laws.cone_is_within.Goals as goal

pub returns : goal.returns
returns c = by_number.cone_is_within register_machine
