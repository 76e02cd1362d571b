use Rattle.rev_depfile.proofs.SpellingLemmas.{words-held}
use Rattle.rev_depfile.proofs.laws.words_are_held.Goals as goal

pub returns : goal.returns
returns c = words-held
