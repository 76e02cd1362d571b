use Rattle.std.proofs.Common.{◌+◌, length}
use Rattle.rev_ranks.specs.Graph.{graph_of}
use Rattle.rev_ranks.specs.Sets.{unmarked}
use Rattle.rev_ranks.specs.Walks.{IsNumbering}
use Rattle.rev_ranks.proofs.components.number_from.Given as goal

abbrev pub invariant-loop-next : goal.invariant-loop-next
invariant-loop-next l = IsNumbering (graph_of l.successors) l.root l.number l.fn.marks.items l.fn.numbers.items l.marks.items l.numbers.items l.open_nodes.items

abbrev pub decreases-loop-next : goal.decreases-loop-next
decreases-loop-next l = unmarked l.marks.items + length l.open_nodes.items
