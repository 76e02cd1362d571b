use Rattle.rev_ranks.proofs.SetLemmas.{set-of-reachable}
use Rattle.rev_ranks.proofs.searches.reachable_from.Goals as goal

pub returns : goal.returns
returns c = set-of-reachable _ _ _ c.in_ok-marks.ensures
