use Rattle.rev_causal.proofs.ByNumber as by_number
use Rattle.rev_causal.specs.Registers.{register_machine}
use Rattle.rev_causal.proofs.registers.laws.same_entries.Goals as goal

pub returns : goal.returns
returns c = by_number.same_entries register_machine
