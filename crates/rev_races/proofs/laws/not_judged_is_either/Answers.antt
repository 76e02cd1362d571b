use Rattle.rev_races.proofs.JudgedLemmas.{not-judged-is-either}
use Rattle.rev_races.proofs.laws.not_judged_is_either.Goals as goal

pub returns : goal.returns
returns c = not-judged-is-either
