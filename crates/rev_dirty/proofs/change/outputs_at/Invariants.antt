use Rattle.std.proofs.Common.{◌≡◌, ◌++◌, ℕ, List, take}
use Rattle.std.specs.Prelude.{slice_get}
use Rattle.std.specs.List.{filter_map}
use Rattle.rev_graph.specs.Graph.{has_path}
use Rattle.rev_dirty.proofs.change.outputs_at.Given as goal

abbrev pub invariant-loop-position : goal.invariant-loop-position
invariant-loop-position l =
    (path : List ℕ) → has_path l.outputs.keys path ≡ has_path (filter_map (slice_get (l.explicit ++ l.implicit)) (take l.position-index l.positions)) path
