use Rattle.rev_races.proofs.AtOnce.{exact-at-once}
use Rattle.rev_races.proofs.laws.exact_at_once.Goals as goal

pub returns : goal.returns
returns c = exact-at-once
