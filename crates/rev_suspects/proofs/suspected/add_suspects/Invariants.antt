use Rattle.std.proofs.Common.{◌≡◌, ◌++◌, map}
use Rattle.std.specs.Prelude.{filter}
use Rattle.std.specs.List.{range_with_len}
use Rattle.rev_suspects.specs.Suspects.{is_suspect, suspect_as}
use Rattle.rev_suspects.proofs.suspected.add_suspects.Given as goal

abbrev pub invariant-loop-edge : goal.invariant-loop-edge
invariant-loop-edge l =
    l.found.items
    ≡ l.initial.found.items
    ++ map (suspect_as l.failure l.progress)
    (filter (is_suspect l.graph.manifest l.files l.cells.state l.failure.edge l.progress) (range_with_len 0 l.edge))
