use Rattle.std.proofs.Common.{◌≡◌, ◌++◌, [], length, map}
use Rattle.std.specs.Prelude.{replicate}
use Rattle.std.specs.List.{range_with_len}
use Rattle.rev_ranks.specs.Graph.{graph_of}
use Rattle.rev_unlisted.specs.Follows.{follow_of}
use Rattle.rev_unlisted.specs.Found.{names_of}
use Rattle.rev_unlisted.proofs.follows.follow_steps.Given as goal

abbrev pub invariant-loop-edge : goal.invariant-loop-edge
invariant-loop-edge l = graph_of l.steps.items ≡ map (follow_of l.graph.manifest.builds (names_of l.lists) l.paths l.sure) (range_with_len 0 l.edge)

abbrev pub invariant-loop-path : goal.invariant-loop-path
invariant-loop-path l = graph_of l.steps.items ≡ map (follow_of l.graph.manifest.builds (names_of l.lists) l.paths l.sure) (range_with_len 0 (length l.graph.manifest.builds)) ++ replicate l.path []
