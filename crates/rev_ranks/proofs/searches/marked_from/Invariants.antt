use Rattle.std.proofs.Common.{◌+◌, length}
use Rattle.rev_ranks.specs.Graph.{graph_of}
use Rattle.rev_ranks.specs.Sets.{IsSearch, unmarked}
use Rattle.rev_ranks.proofs.searches.marked_from.Given as goal

abbrev pub invariant-loop-next : goal.invariant-loop-next
invariant-loop-next l = IsSearch (graph_of l.successors) l.roots l.marks.items l.open_nodes.items

abbrev pub decreases-loop-next : goal.decreases-loop-next
decreases-loop-next l = unmarked l.marks.items + length l.open_nodes.items
