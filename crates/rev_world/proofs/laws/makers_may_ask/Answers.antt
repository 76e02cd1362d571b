use Rattle.rev_world.proofs.MakingLemmas.{makers-may-ask}
use Rattle.rev_world.proofs.laws.makers_may_ask.Goals as goal

pub returns : goal.returns
returns c = makers-may-ask
