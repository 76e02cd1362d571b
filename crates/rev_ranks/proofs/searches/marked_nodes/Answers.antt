use Rattle.std.proofs.Common.{get_or}
use Rattle.std.proofs.lemmas.List.Elements.{Contains-get_or}
use Rattle.rev_ranks.proofs.Marks.{marked_within}
use Rattle.rev_ranks.proofs.searches.marked_nodes.Goals as goal

pub returns-clause-nodes : goal.returns-clause-nodes
returns-clause-nodes c = λ k d h.
    marked_within c.args.marks.now (get_or c.loop-node.nodes.items k d)
    (c.loop-node.invariant.only (get_or c.loop-node.nodes.items k d) (Contains-get_or c.loop-node.nodes.items k d h))
