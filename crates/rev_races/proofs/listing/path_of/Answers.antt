use Rattle.std.proofs.Common.{◌≡◌, ◌<◌, ℕ, List, length, slice_get, ap, ◌∙◌, arith}
use Rattle.std.specs.Prelude.{option_and_then}
use Rattle.std.specs.Option.{option_copied, option_map}
use Rattle.rev_cells.specs.declared.value.DepsRecord.{DepsRecord}
use Rattle.rev_manifest.specs.Manifest.{ManifestValue}
use Rattle.rev_graph.specs.Graph.{build_at}
use Rattle.rev_history.specs.Timeline.{state_at}
use Rattle.rev_races.specs.Races.{recorded}
use Rattle.rev_races.proofs.AnswerLemmas.{lists-recorded}
use Rattle.rev_races.proofs.listing.path_of.Goals as goal

pub returns : goal.returns
returns c = λ all h.
    let t = c.args.history.now.timeline in
    let user = c.args.race.now.user in
    let place = c.args.race.now.place in
    let same : length c.graph.result.now.manifest.builds ≡ length c.args.history.now.timeline.manifest.builds = ap (λ (m : ManifestValue). length m.builds) c.graph.ensures in
    let within : c.args.race.now.user < length c.args.history.now.timeline.manifest.builds = omega (arith, same, c.edges.ensures.edges, c.if-race-edges.false) in
    let found : option_copied c.paths_of.result ≡ recorded (state_at c.args.history.now.timeline) (build_at c.args.history.now.timeline.manifest.builds c.args.race.now.user) =
    c.paths_of.ensures ∙ ap (λ o. option_map (λ (deps : DepsRecord). deps.paths) o) c.deps_record-deps.ensures
    ∙ (λ i. recorded (c.cells.ensures.state i) (build_at (c.graph-2.ensures i).builds user)) in
    c.path_at.ensures
    ∙ ap (option_and_then (λ (paths : List (List ℕ)). slice_get paths place)) (found ∙ lists-recorded t c.graph.result.now user c.edges.ensures.graph c.graph.ensures within ∙ h)
