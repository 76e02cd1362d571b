use Rattle.std.proofs.Common.{◌<◌, length, vec_len}
use Rattle.std.specs.List.{All}
use Rattle.rev_ranks.specs.Graph.{graph_of}
use Rattle.rev_ranks.specs.Walks.{IsLeaving, AreNumbered}
use Rattle.rev_ranks.proofs.components.components.Given as goal

abbrev pub invariant-loop-root : goal.invariant-loop-root
invariant-loop-root l = record {
  numbered : AreNumbered (graph_of l.successors) l.to_come.items l.marks.items l.numbers.items l.number;
  leaving : IsLeaving (graph_of l.steps_back.items) l.to_come.items;
  nodes : All (λ n. n < length l.successors) l.to_come.items;
}

abbrev pub decreases-loop-root : goal.decreases-loop-root
decreases-loop-root l = vec_len l.to_come
