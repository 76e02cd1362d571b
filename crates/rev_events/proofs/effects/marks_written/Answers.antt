use Rattle.rev_events.proofs.EffectLemmas.{marks-add}
use Rattle.rev_events.proofs.effects.marks_written.Goals as goal

pub returns : goal.returns
returns c = marks-add _ _ _ _ c.new-writes.ensures.items c.in_ok-push_marks.ensures c.in_ok-push_write.ensures
