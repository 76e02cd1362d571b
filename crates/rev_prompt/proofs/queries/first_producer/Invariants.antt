use Rattle.std.proofs.Common.{◌≡◌, drop}
use Rattle.std.specs.List.{filter_map}
use Rattle.rev_graph.specs.Graph.{producer_of}
use Rattle.rev_prompt.specs.Found.{first_of}
use Rattle.rev_prompt.proofs.queries.first_producer.Given as goal

-- no edge has one of the names so far
abbrev pub invariant-loop-name : goal.invariant-loop-name
invariant-loop-name l =
    first_of (filter_map (producer_of l.graph.manifest.builds) l.names)
    ≡ first_of (filter_map (producer_of l.graph.manifest.builds) (drop l.name-index l.names))
