use Rattle.rev_causal.proofs.ByNumber as by_number
use Rattle.rev_causal.proofs.RegistersLocal.{registers_local}
use Rattle.rev_causal.proofs.registers.laws.redo_keeps_footprints.Goals as goal

pub returns : goal.returns
returns c = by_number.redo_keeps_footprints _ registers_local
