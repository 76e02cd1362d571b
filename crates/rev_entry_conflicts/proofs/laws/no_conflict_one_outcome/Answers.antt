use Rattle.rev_entry_conflicts.proofs.JoinLemmas.{no-conflict-one-outcome}
use Rattle.rev_entry_conflicts.proofs.laws.no_conflict_one_outcome.Goals as goal

pub returns : goal.returns
returns c = no-conflict-one-outcome
