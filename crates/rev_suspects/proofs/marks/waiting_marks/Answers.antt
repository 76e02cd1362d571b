use Rattle.std.proofs.Common.{◌<◌, length, subst, arith}
use Rattle.rev_ranks.specs.Graph.{graph_of}
use Rattle.rev_ranks.specs.Leads.{is_reachable}
use Rattle.rev_ranks.specs.Sets.{IsSetOf}
use Rattle.rev_suspects.proofs.MarkLemmas.{nodes-within, waiting-marks}
use Rattle.rev_suspects.proofs.marks.waiting_marks.Goals as goal

pub reachable_from-requires-clause-inside : goal.reachable_from-requires-clause-inside
reachable_from-requires-clause-inside c = nodes-within c.args.back.now _ _ c.requires.each c.requires.inside

pub returns : goal.returns
returns c =
    let builds = c.args.graph.now.manifest.builds in
    let within : c.args.edge < length c.args.back.now = omega (arith, c.requires.edge, c.requires.each) in
    let marked : IsSetOf (graph_of c.args.back.now) (is_reachable (graph_of c.args.back.now) c.index-back-edge.result.items) c.in_ok-marks.marks.items =
    subst (λ rs. IsSetOf (graph_of c.args.back.now) (is_reachable (graph_of c.args.back.now) rs) c.in_ok-marks.marks.items) c.deref.ensures.value c.in_ok-marks.ensures in
    waiting-marks builds c.args.back.now c.args.edge c.index-back-edge.result c.in_ok-marks.marks.items c.requires.back within c.index-back-edge.is marked
