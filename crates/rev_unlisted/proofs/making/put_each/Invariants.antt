use Rattle.rev_ranks.specs.Graph.{graph_of}
use Rattle.rev_unlisted.proofs.MakerLemmas.{PutsFirst}
use Rattle.rev_unlisted.proofs.making.put_each.Given as goal

abbrev pub invariant-loop-path : goal.invariant-loop-path
invariant-loop-path l = PutsFirst (graph_of l.initial.lists.items) (graph_of l.lists.items) l.edge l.written l.path-index
