use Rattle.rev_conflicts.proofs.LastLemmas.{who-wrote-it-last}
use Rattle.rev_conflicts.proofs.laws.who_wrote_it_last.Goals as goal

pub returns : goal.returns
returns c = who-wrote-it-last
