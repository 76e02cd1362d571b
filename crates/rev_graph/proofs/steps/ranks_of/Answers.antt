use Rattle.std.proofs.Common.{ap, ◌∙◌}
use Rattle.rev_ranks.specs.Graph.{graph_of}
use Rattle.rev_graph.specs.Lists.{lists_of}
use Rattle.rev_graph.proofs.StepLemmas.{successors-are}
use Rattle.rev_graph.proofs.steps.ranks_of.Goals as goal

pub ranks_by-requires-clause-successors : goal.ranks_by-requires-clause-successors
ranks_by-requires-clause-successors c =
    ap graph_of c.deref.ensures.value ∙ c.in_ok-successors.ensures ∙ successors-are c.args.edges.now (lists_of c.args.producers.now) c.requires.producers
