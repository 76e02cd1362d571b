use Rattle.std.proofs.Common.{◌≡◌, ℕ, [], length, map, ap, ◌∙◌, arith}
use Rattle.std.specs.Prelude.{unwrap_or}
use Rattle.std.specs.List.{range_with_len}
use Rattle.rev_manifest.specs.Manifest.{ManifestValue}
use Rattle.rev_history.specs.Timeline.{kept_events}
use Rattle.rev_races.specs.Races.{lists}
use Rattle.rev_unlisted.proofs.FollowLemmas.{names-more}
use Rattle.rev_unlisted.proofs.answer.all_lists.Goals as goal

pub loop-edge-preserved : goal.loop-edge-preserved
loop-edge-preserved c =
    names-more (λ (edge : ℕ). unwrap_or (lists c.args.history.now.timeline.manifest c.args.history.now.timeline.opening (kept_events c.args.history.now.timeline) edge) []) c.loop-edge.lists.items c.push.new.self.items
    c.list_of.result c.loop-edge.edge c.loop-edge.invariant c.in_ok-push.ensures.items c.list_of.ensures

pub returns : goal.returns
returns c =
    let many : c.edges-edge-end.result ≡ length c.args.history.now.timeline.manifest.builds = c.edges-edge-end.ensures.edges ∙ ap (λ (m : ManifestValue). length m.builds) c.graph.ensures in
    let all : c.loop-edge.edge ≡ length c.args.history.now.timeline.manifest.builds = omega (arith, c.loop-edge-test.false, c.loop-edge.auto.edge-end, many) in
    c.loop-edge.invariant
    ∙ ap (λ n. map (λ (edge : ℕ). unwrap_or (lists c.args.history.now.timeline.manifest c.args.history.now.timeline.opening (kept_events c.args.history.now.timeline) edge) []) (range_with_len 0 n)) all
