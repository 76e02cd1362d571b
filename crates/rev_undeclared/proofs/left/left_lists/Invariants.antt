use Rattle.std.proofs.Common.{◌≡◌, length}
use Rattle.rev_ranks.specs.Graph.{graph_of}
use Rattle.rev_undeclared.proofs.LeftLemmas.{AreLeftBy}
use Rattle.rev_undeclared.proofs.left.left_lists.Given as goal

abbrev pub invariant-loop-number : goal.invariant-loop-number
invariant-loop-number l = record {
  left : AreLeftBy l.paths l.hidden l.builds l.early l.commands l.edges l.number (graph_of l.lists.items);
  each : length l.lists.items ≡ length l.paths;
}
