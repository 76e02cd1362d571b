-- What the parts of a graph say together.
use Rattle.std.specs.Prelude.{◌≡◌, ℕ, List, map, Some, None, if◌then◌else◌}
use Rattle.rev_graph.specs.declared.graph.Graph.TheInside.{Inside}
use Rattle.rev_graph.specs.Entries.{entry}
use Rattle.rev_graph.specs.Graph.{GraphValue, IsGraph, is_known, producer_of, input_producers}
use Rattle.rev_graph.specs.Lists.{lists_of}

abbrev pub value_of : Inside → GraphValue
value_of a = record { manifest = a.manifest; ranks = a.ranks.items }

pub record IsSound (a : Inside) : Type 0 where
  pub graph : IsGraph (value_of a)
  pub entries : (path : List ℕ)
      → entry a.table.entries path
      ≡ (if is_known a.manifest.builds path then Some (producer_of a.manifest.builds path) else None)
  pub producers : lists_of a.producers.items ≡ map (input_producers a.manifest.builds) a.manifest.builds
