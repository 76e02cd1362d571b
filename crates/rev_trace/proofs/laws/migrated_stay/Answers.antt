use Rattle.rev_trace.proofs.MigrateLemmas.{migrated-stay}
use Rattle.rev_trace.proofs.laws.migrated_stay.Goals as goal

pub returns : goal.returns
returns c = migrated-stay
