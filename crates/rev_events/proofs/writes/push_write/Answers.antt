use Rattle.rev_events.proofs.AddsLemmas.{adds-one}
use Rattle.rev_events.proofs.writes.push_write.Goals as goal

pub returns : goal.returns
returns c = adds-one _ _ _ _ c.requires c.in_ok-push.ensures.items
