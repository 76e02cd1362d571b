use Rattle.std.proofs.Common.{◌≡◌, map}
use Rattle.std.specs.List.{range_with_len}
use Rattle.rev_graph.specs.Graph.{build_at}
use Rattle.rev_unlisted.specs.Always.{is_never_done}
use Rattle.rev_unlisted.proofs.always.never_done.Given as goal

abbrev pub invariant-loop-edge : goal.invariant-loop-edge
invariant-loop-edge l =
    l.marks.items ≡ map (λ edge. is_never_done l.cells.state (build_at l.graph.manifest.builds edge)) (range_with_len 0 l.edge)
