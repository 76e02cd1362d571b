use Rattle.std.proofs.Common.{◌≡◌, ℕ, List, Bool, true, false, replicate, length, rules, ◌∙◌, ap, subst}
use Rattle.std.specs.Global.{Vec}
use Rattle.std.proofs.lemmas.List.{get_or-replicate}
use Rattle.rev_ranks.specs.Graph.{graph_of}
use Rattle.rev_ranks.specs.Leads.{is_reachable}
use Rattle.rev_ranks.specs.Sets.{is_marked, IsSetOf}
use Rattle.rev_plan.specs.Plan.{edges_by, needed_paths}
use Rattle.rev_plan.specs.Steps.{IsSubgraph}
use Rattle.rev_plan.proofs.PlanLemmas.{reached-are}
use Rattle.rev_plan.proofs.marks.reached_from.Goals as goal

pub returns : goal.returns
returns c = λ state listed.
    let builds = c.args.graph.now.manifest.builds in
    let fresh : c.in_ok-all.all.items ≡ replicate (length c.args.graph.now.manifest.builds) true = search rules in
    let needs = graph_of c.in_ok-needs.needs.items in
    reached-are builds state c.args.roots.now c.in_ok-all.all.items needs c.in_ok-reached.reached.items
    (λ edge within. ap (λ (marks : List Bool). is_marked marks edge) fresh ∙ get_or-replicate (length c.args.graph.now.manifest.builds) edge true false within) c.requires.nodes
    (subst (λ (marks : List Bool). IsSubgraph (edges_by (needed_paths state) c.args.graph.now.manifest.builds) marks (graph_of c.in_ok-needs.needs.items)) c.deref.ensures.value (c.in_ok-needs.ensures.steps state listed))
    (subst (λ (lists : List (Vec ℕ)). IsSetOf (graph_of lists) (is_reachable (graph_of lists) c.args.roots.now) c.in_ok-reached.reached.items) c.deref-2.ensures.value c.in_ok-reached.ensures)
