use Rattle.std.proofs.Common.{◌<◌, ◌≡◌, ◌++◌, ℕ, List, length, get_or, subst, ap, ◌∙◌}
use Rattle.rev_history.specs.Timeline.{event_at}
use Rattle.rev_certainty.specs.Needed.{makers_if}
use Rattle.rev_certainty.proofs.NeedLemmas.{flat-next}
use Rattle.rev_certainty.proofs.needing.target_edges.Goals as goal

pub loop-number-preserved : goal.loop-number-preserved
loop-number-preserved c =
    let t = c.args.history.now.timeline in
    let i = c.loop-number.number-index in
    let within : c.loop-number.number-index < length c.args.history.now.timeline.kept =
    subst (λ (xs : List ℕ). c.loop-number.number-index < length xs) c.kept-number-items.ensures.kept c.loop-number-test.true in
    let is : c.in_ok-makers.makers.items ≡ makers_if c.args.history.now.timeline.manifest (event_at c.args.history.now.timeline (get_or c.args.history.now.timeline.kept c.loop-number.number-index 0)) =
    c.in_ok-makers.ensures ∙ (λ j. makers_if (c.graph-graph.ensures j) (c.event.ensures j))
    ∙ ap (λ (xs : List ℕ). makers_if t.manifest (event_at t (get_or xs i 0))) c.kept-number-items.ensures.kept in
    flat-next (λ n. makers_if t.manifest (event_at t n)) t.kept i c.loop-number.edges.items c.in_ok-makers.makers.items c.extend_from_slice.new.self.items within c.loop-number.invariant is
    (c.in_ok-extend_from_slice.ensures.items ∙ ap (λ (added : List ℕ). c.loop-number.edges.items ++ added) c.deref.ensures.value)
