use Rattle.rev_causal.proofs.Laws as laws
use Rattle.rev_causal.specs.Registers.{register_machine}
use Rattle.rev_causal.proofs.registers.laws.nearest_is_least.Goals as goal

pub returns : goal.returns
returns c = laws.nearest_is_least register_machine
