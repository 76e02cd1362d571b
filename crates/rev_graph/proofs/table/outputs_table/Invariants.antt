use Rattle.std.proofs.Common.{◌≡◌, List, ℕ, take, drop, Some}
use Rattle.std.specs.Option.{option_map}
use Rattle.rev_graph.specs.Entries.{entry}
use Rattle.rev_graph.specs.Graph.{producer_of, double_after, first_double}
use Rattle.rev_graph.proofs.table.outputs_table.Given as goal

abbrev pub invariant-loop-number : goal.invariant-loop-number
invariant-loop-number l = record {
  entries : (path : List ℕ) → entry l.table.entries path ≡ option_map Some (producer_of (take l.number l.edges) path);
  double : double_after (take l.number l.edges) (drop l.number l.edges) ≡ first_double l.edges;
}
