use Rattle.rev_causal.proofs.Occurrence as occurrence
use Rattle.rev_causal.proofs.RegistersLocal.{cell_total, cell_exact}
use Rattle.rev_causal.specs.Registers.{registers}
use Rattle.rev_causal.proofs.registers.laws.equal_writers_conflict.Goals as goal

pub returns : goal.returns
returns c = occurrence.equal_writers_conflict cell_total cell_exact registers
