use Rattle.rev_trace.proofs.MigrateLemmas.{migrated-traces-are-read}
use Rattle.rev_trace.proofs.laws.migrated_traces_are_read.Goals as goal

pub returns : goal.returns
returns c = migrated-traces-are-read
