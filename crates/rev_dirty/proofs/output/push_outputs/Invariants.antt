use Rattle.std.proofs.Common.{◌≡◌, ◌++◌, map, take}
use Rattle.rev_graph.specs.Graph.{build_at}
use Rattle.rev_dirty.specs.Facts.{output_facts}
use Rattle.rev_dirty.proofs.output.push_outputs.Given as goal

abbrev pub invariant-loop-path : goal.invariant-loop-path
invariant-loop-path l =
    l.outputs.items ≡ l.initial.outputs.items ++ map (output_facts l.cells.state (build_at l.graph.manifest.builds l.edge)) (take l.path-index l.paths)
