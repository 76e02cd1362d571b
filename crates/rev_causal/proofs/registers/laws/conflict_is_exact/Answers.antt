use Rattle.rev_causal.proofs.Store as store
use Rattle.rev_causal.proofs.RegistersLocal.{cell_total, cell_exact}
use Rattle.rev_causal.proofs.registers.laws.conflict_is_exact.Goals as goal

pub returns : goal.returns
returns c = store.conflict_is_exact cell_total cell_exact
