use Rattle.rev_ranks.specs.Graph.{graph_of}
use Rattle.rev_conflicts.proofs.QuietLemmas.{AreNextsFrom}
use Rattle.rev_conflicts.proofs.nexts.nexts.Given as goal

abbrev pub invariant-loop-left : goal.invariant-loop-left
invariant-loop-left l = AreNextsFrom (graph_of l.lists) l.nexts.items l.left

abbrev pub decreases-loop-left : goal.decreases-loop-left
decreases-loop-left l = l.left
