use Rattle.std.proofs.Common.{◌≡◌, length}
use Rattle.rev_ranks.specs.Graph.{graph_of}
use Rattle.rev_undeclared.specs.Tables.{PutsIf}
use Rattle.rev_undeclared.proofs.LeftLemmas.{FirstOpen}
use Rattle.rev_undeclared.proofs.left.put_each.Given as goal

abbrev pub invariant-loop-path : goal.invariant-loop-path
invariant-loop-path l = record {
  puts : PutsIf (graph_of l.initial.lists.items) (graph_of l.lists.items) l.command (FirstOpen l.paths l.hidden l.builds l.edge l.written l.path-index);
  each : length l.lists.items ≡ length l.paths;
}
