use Rattle.std.proofs.Common.{◌≡◌, map, take}
use Rattle.rev_graph.specs.Graph.{build_at}
use Rattle.rev_cells.specs.State.{stamp_of}
use Rattle.rev_events.specs.Edge.{changes}
use Rattle.rev_events.proofs.writes.changed_flags.Given as goal

abbrev pub invariant-loop-place : goal.invariant-loop-place
invariant-loop-place l = l.flags.items ≡ changes (build_at l.graph.manifest.builds l.edge).restat (map (stamp_of l.cells.state) (take l.place l.outputs)) l.stamps
