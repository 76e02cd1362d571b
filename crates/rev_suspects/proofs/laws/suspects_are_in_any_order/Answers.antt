use Rattle.rev_suspects.proofs.LawLemmas.{suspects-are-in-any-order}
use Rattle.rev_suspects.proofs.laws.suspects_are_in_any_order.Goals as goal

pub returns : goal.returns
returns c = suspects-are-in-any-order
