use Rattle.std.proofs.Common.{◌<◌, length, subst, arith}
use Rattle.rev_ranks.specs.Graph.{graph_of}
use Rattle.rev_ranks.specs.Leads.{is_reachable}
use Rattle.rev_ranks.specs.Sets.{IsSetOf}
use Rattle.rev_graph.proofs.StepLemmas.{all-within, length-successors}
use Rattle.rev_waits.proofs.WaitLemmas.{roots-within, waited-for}
use Rattle.rev_waits.proofs.waiting.waited_for.Goals as goal

pub reachable_from-requires-clause-inside : goal.reachable_from-requires-clause-inside
reachable_from-requires-clause-inside c = all-within c.args.graph.now.manifest.builds c.args.steps.now c.requires.steps

pub reachable_from-requires-clause-nodes : goal.reachable_from-requires-clause-nodes
reachable_from-requires-clause-nodes c =
    let builds = c.args.graph.now.manifest.builds in
    let within : c.args.edge < length c.args.steps.now = omega (arith, c.requires.edge, length-successors builds c.args.steps.now c.requires.steps) in
    roots-within c.args.steps.now c.args.edge c.index-steps-edge.result c.deref.result.now (all-within builds c.args.steps.now c.requires.steps) within c.index-steps-edge.is c.deref.ensures.value

pub returns : goal.returns
returns c =
    let builds = c.args.graph.now.manifest.builds in
    let within : c.args.edge < length c.args.steps.now = omega (arith, c.requires.edge, length-successors builds c.args.steps.now c.requires.steps) in
    let marked : IsSetOf (graph_of c.args.steps.now) (is_reachable (graph_of c.args.steps.now) c.index-steps-edge.result.items) c.in_ok-marks.marks.items =
    subst (λ rs. IsSetOf (graph_of c.args.steps.now) (is_reachable (graph_of c.args.steps.now) rs) c.in_ok-marks.marks.items) c.deref.ensures.value c.in_ok-marks.ensures in
    waited-for builds c.args.steps.now c.args.edge c.index-steps-edge.result c.in_ok-marks.marks.items c.requires.steps within c.index-steps-edge.is marked
