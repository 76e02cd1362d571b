use Rattle.rev_races.proofs.RaceLemmas.{races-run-at-once}
use Rattle.rev_races.proofs.laws.races_run_at_once.Goals as goal

pub returns : goal.returns
returns c = races-run-at-once
