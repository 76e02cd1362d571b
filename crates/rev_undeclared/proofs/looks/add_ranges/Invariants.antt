use Rattle.std.proofs.Common.{◌≡◌, ◌<◌, true, length, take}
use Rattle.rev_ranks.specs.Graph.{graph_of}
use Rattle.rev_conflicts.specs.Ranges.{has_path}
use Rattle.rev_undeclared.specs.Tables.{Adds, IsLookWhere}
use Rattle.rev_undeclared.proofs.looks.add_ranges.Given as goal

abbrev pub invariant-loop-range : goal.invariant-loop-range
invariant-loop-range l =
    Adds l.initial.found l.found (IsLookWhere l.graph.manifest.builds l.paths l.edges l.stronger (graph_of l.left.lists.items) l.user l.used_by l.used (λ path. path < length l.paths))
    (IsLookWhere l.graph.manifest.builds l.paths l.edges l.stronger (graph_of l.left.lists.items) l.user l.used_by l.used (λ path. has_path (take l.range-index l.ranges) path ≡ true))
