use Rattle.std.proofs.Common.{◌∙◌, ◌∷◌, [], ◌++◌, ap, sym}
use Rattle.rev_events.proofs.AddsLemmas.{range-next}
use Rattle.rev_events.proofs.writes.all_positions.Goals as goal

pub loop-position-preserved : goal.loop-position-preserved
loop-position-preserved c = c.in_ok-push.ensures.items ∙ ap (λ ps. ps ++ c.loop-position.position ∷ []) c.loop-position.invariant ∙ sym (range-next c.loop-position.position)
