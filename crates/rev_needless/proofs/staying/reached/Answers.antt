use Rattle.std.proofs.Common.{ℕ, ◌<◌, List, length, subst, sym}
use Rattle.std.specs.List.{All}
use Rattle.rev_ranks.proofs.Ways.{successors_inside}
use Rattle.rev_needless.proofs.StayLemmas.{reached-marks}
use Rattle.rev_needless.proofs.staying.reached.Goals as goal

pub reachable_from-requires-clause-nodes : goal.reachable_from-requires-clause-nodes
reachable_from-requires-clause-nodes c =
    subst (λ (xs : List ℕ). All (λ s. s < length c.args.graph.now) xs) (sym c.deref.ensures.value)
    (successors_inside c.args.graph.now c.args.node c.index-graph-node.result c.requires.inside c.requires.node c.index-graph-node.is)

pub returns : goal.returns
returns c =
    reached-marks c.args.graph.now c.args.node c.index-graph-node.result c.deref.result.now c.in_ok-marks.marks.items c.requires.node c.index-graph-node.is c.deref.ensures.value c.in_ok-marks.ensures
