use Rattle.std.proofs.Common.{◌≡◌, length}
use Rattle.rev_ranks.specs.Graph.{graph_of}
use Rattle.rev_conflicts.proofs.TableLemmas.{AreTouchedBy}
use Rattle.rev_conflicts.proofs.table.make_tables.Given as goal

abbrev pub invariant-loop-number : goal.invariant-loop-number
invariant-loop-number l = record {
  touched : AreTouchedBy l.paths l.hidden l.commands l.number (graph_of l.files.items) (graph_of l.folders.items);
  files : length l.files.items ≡ length l.paths;
  folders : length l.folders.items ≡ length l.paths;
}
