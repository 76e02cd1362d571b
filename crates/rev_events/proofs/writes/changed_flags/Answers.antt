use Rattle.std.proofs.Common.{◌≡◌, ◌∙◌, ◌∷◌, [], ◌++◌, not, ◌||◌, ◌==◌, drop}
use Rattle.rev_graph.specs.Graph.{build_at}
use Rattle.rev_cells.specs.State.{stamp_of}
use Rattle.rev_events.specs.Edge.{first_of}
use Rattle.rev_events.proofs.AddsLemmas.{changes-more}
use Rattle.rev_events.proofs.writes.changed_flags.Goals as goal

pub loop-place-preserved : goal.loop-place-preserved
loop-place-preserved c =
    let state = c.args.cells.now.state in
    let restat = (build_at c.args.graph.now.manifest.builds c.args.edge).restat in
    let place = c.loop-place.place in
    let path = c.index-outputs-place.result in
    let here : c.has_changed-changed.result ≡ (not restat || not (stamp_of state path == first_of 0 (drop place c.args.stamps.now))) =
    c.has_changed-changed.ensures ∙ (λ k. not (c.restat-restat.ensures k) || not (c.stamp-before.ensures k == c.stamp_at.ensures k)) in
    c.in_ok-push.ensures.items ∙ (λ k. c.loop-place.invariant k ++ here k ∷ [])
    ∙ changes-more (stamp_of state) restat c.args.outputs.now c.args.stamps.now place path c.loop-place-test.true c.index-outputs-place.is
