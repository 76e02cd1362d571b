use Rattle.std.proofs.Common.{◌≡◌, length}
use Rattle.rev_ranks.specs.Graph.{graph_of}
use Rattle.rev_conflicts.specs.Tables.{PutsAt}
use Rattle.rev_conflicts.proofs.TableLemmas.{FirstTouch}
use Rattle.rev_conflicts.proofs.table.touch_each.Given as goal

abbrev pub invariant-loop-path : goal.invariant-loop-path
invariant-loop-path l = record {
  puts : PutsAt (graph_of l.initial.files.items) (graph_of l.initial.folders.items) (graph_of l.files.items) (graph_of l.folders.items) l.command (FirstTouch l.paths l.hidden l.changed l.path-index);
  files : length l.files.items ≡ length l.paths;
  folders : length l.folders.items ≡ length l.paths;
}
