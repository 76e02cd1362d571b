use Rattle.std.proofs.Common.{◌≡◌, ◌++◌, List, ℕ, None, take, map}
use Rattle.rev_graph.specs.Entries.{entry, given, produced_by}
use Rattle.std.specs.Option.{option_or}
use Rattle.rev_graph.specs.Graph.{has_path}
use Rattle.rev_graph.proofs.steps.push_producers.Given as goal

abbrev pub invariant-loop-name : goal.invariant-loop-name
invariant-loop-name l = record {
  producers : l.producers.items ≡ l.initial.producers.items ++ map (produced_by l.initial.table.entries) (take l.name-index l.names);
  entries : (path : List ℕ) → entry l.table.entries path ≡ option_or (entry l.initial.table.entries path) (given (has_path (take l.name-index l.names) path) None);
}
