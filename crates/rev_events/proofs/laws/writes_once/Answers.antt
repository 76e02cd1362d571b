use Rattle.rev_events.proofs.WrittenLemmas.{writes-once}
use Rattle.rev_events.proofs.laws.writes_once.Goals as goal

pub returns : goal.returns
returns c = writes-once
