use Rattle.rev_entry_conflicts.proofs.JoinLemmas.{no-conflict-none-told}
use Rattle.rev_entry_conflicts.proofs.laws.no_conflict_none_told.Goals as goal

pub returns : goal.returns
returns c = no-conflict-none-told
