use Rattle.rev_fields.proofs.GrammarLemmas.{parts-are-cut}
use Rattle.rev_fields.proofs.laws.parts_are_cut.Goals as goal

pub returns : goal.returns
returns c = parts-are-cut
