use Rattle.std.proofs.Common.{◌≡◌, List, ℕ, None, take, map}
use Rattle.std.specs.List.{list_any}
use Rattle.rev_graph.specs.Entries.{entry, given, produced_by}
use Rattle.std.specs.Option.{option_or}
use Rattle.rev_graph.specs.Graph.{inputs_of, needs}
use Rattle.rev_graph.specs.Lists.{lists_of}
use Rattle.rev_graph.proofs.steps.all_producers.Given as goal

abbrev pub invariant-loop-edge : goal.invariant-loop-edge
invariant-loop-edge l = record {
  producers : lists_of l.all.items ≡ map (λ build. map (produced_by l.initial.table.entries) (inputs_of build)) (take l.edge-index l.edges);
  entries : (path : List ℕ) → entry l.table.entries path ≡ option_or (entry l.initial.table.entries path) (given (list_any (needs path) (take l.edge-index l.edges)) None);
}
