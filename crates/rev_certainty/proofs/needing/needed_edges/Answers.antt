use Rattle.std.proofs.Common.{◌≡◌, ◌<◌, ℕ, List, length, subst, sym, ap, ◌∙◌}
use Rattle.std.specs.List.{All}
use Rattle.rev_manifest.specs.Manifest.{ManifestValue}
use Rattle.rev_ranks.specs.Graph.{graph_of}
use Rattle.rev_ranks.specs.Leads.{is_reachable}
use Rattle.rev_ranks.specs.Sets.{IsSetOf}
use Rattle.rev_certainty.specs.Needed.{need_lists, target_edges}
use Rattle.rev_certainty.proofs.NeedLemmas.{needs-inside, targets-inside}
use Rattle.rev_certainty.proofs.needing.needed_edges.Goals as goal

pub reachable_from-requires-clause-inside : goal.reachable_from-requires-clause-inside
reachable_from-requires-clause-inside c =
    needs-inside c.graph.result.now.manifest.builds c.deref.result.now (ap graph_of c.deref.ensures.value ∙ c.in_ok-steps.ensures)

pub reachable_from-requires-clause-nodes : goal.reachable_from-requires-clause-nodes
reachable_from-requires-clause-nodes c =
    let t = c.args.history.now.timeline in
    let steps : graph_of c.deref.result.now ≡ need_lists c.args.history.now.timeline.manifest.builds =
    ap graph_of c.deref.ensures.value ∙ c.in_ok-steps.ensures ∙ ap (λ (m : ManifestValue). need_lists m.builds) c.graph.ensures in
    subst (λ (roots : List ℕ). All (λ s. s < length c.deref.result.now) roots) (sym (c.deref-2.ensures.value ∙ c.in_ok-targets.ensures)) (targets-inside t c.deref.result.now steps)

pub returns : goal.returns
returns c =
    let t = c.args.history.now.timeline in
    let steps : graph_of c.deref.result.now ≡ need_lists c.args.history.now.timeline.manifest.builds =
    ap graph_of c.deref.ensures.value ∙ c.in_ok-steps.ensures ∙ ap (λ (m : ManifestValue). need_lists m.builds) c.graph.ensures in
    subst (λ (graph : List (List ℕ)). IsSetOf graph (is_reachable graph (target_edges t)) c.in_ok-marks.marks.items) steps
    (subst (λ (roots : List ℕ). IsSetOf (graph_of c.deref.result.now) (is_reachable (graph_of c.deref.result.now) roots) c.in_ok-marks.marks.items) (c.deref-2.ensures.value ∙ c.in_ok-targets.ensures) c.in_ok-marks.ensures)
