use Rattle.rev_ranks.specs.Graph.{graph_of}
use Rattle.rev_unlisted.proofs.MakerLemmas.{AreMakersBy}
use Rattle.rev_unlisted.proofs.making.maker_lists.Given as goal

abbrev pub invariant-loop-number : goal.invariant-loop-number
invariant-loop-number l = AreMakersBy l.graph.manifest.builds l.paths l.commands l.edges l.number (graph_of l.lists.items)
