use Rattle.rev_witness.specs.Progress.{rank_list}
use Rattle.rev_witness.proofs.EdgeLemmas.{lists_more}
use Rattle.rev_witness.proofs.edges.ranks_of.Goals as goal

pub loop-edge-preserved : goal.loop-edge-preserved
loop-edge-preserved c =
    lists_more (rank_list c.args.graph.now c.args.waited.now) c.loop-edge.ranks.items c.push.new.self.items c.in_ok-rank_of.field-0 c.loop-edge.edge c.in_ok-push.ensures.items c.loop-edge.invariant c.in_ok-rank_of.ensures
