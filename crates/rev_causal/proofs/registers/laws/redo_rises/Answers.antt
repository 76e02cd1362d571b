use Rattle.rev_causal.proofs.ByNumber as by_number
use Rattle.rev_causal.specs.Registers.{register_machine}
use Rattle.rev_causal.proofs.registers.laws.redo_rises.Goals as goal

pub returns : goal.returns
returns c = by_number.redo_rises register_machine
