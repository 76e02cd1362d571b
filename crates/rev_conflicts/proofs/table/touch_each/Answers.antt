use Rattle.std.proofs.Common.{length}
use Rattle.rev_ranks.specs.Graph.{graph_of}
use Rattle.rev_conflicts.proofs.TableLemmas.{first-more, same-length}
use Rattle.rev_conflicts.proofs.table.touch_each.Goals as goal

pub loop-path-preserved : goal.loop-path-preserved
loop-path-preserved c = record {
  puts =
      first-more c.args.paths.now c.args.hidden.now c.args.changed.now c.args.command c.loop-path.path-index (graph_of c.args.files.now.items) (graph_of c.args.folders.now.items) (graph_of c.loop-path.files.items)
      (graph_of c.loop-path.folders.items) (graph_of c.touch.new.files.items) (graph_of c.touch.new.folders.items) c.loop-path.invariant.puts c.in_ok-touch.ensures;
  files = same-length c.loop-path.files.items c.touch.new.files.items (length c.args.paths.now) c.in_ok-touch.ensures.each_file c.loop-path.invariant.files;
  folders = same-length c.loop-path.folders.items c.touch.new.folders.items (length c.args.paths.now) c.in_ok-touch.ensures.each_folder c.loop-path.invariant.folders;
}
