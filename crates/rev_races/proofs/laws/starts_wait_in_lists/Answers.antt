use Rattle.rev_races.proofs.Waiting.{starts-wait-in-lists}
use Rattle.rev_races.proofs.laws.starts_wait_in_lists.Goals as goal

pub returns : goal.returns
returns c = starts-wait-in-lists
