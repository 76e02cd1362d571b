use Rattle.std.proofs.Common.{◌≡◌, ℕ, List, map, max, take}
use Rattle.rev_graph.specs.Graph.{IsRanked}
use Rattle.rev_manifest.specs.Manifest.{BuildValue}
use Rattle.rev_dirty.specs.Visible.{greatest, visible_stamp}
use Rattle.rev_dirty.proofs.newest.greatest_there.Given as goal

-- the greatest of what the paths so far show
abbrev pub invariant-loop-path : goal.invariant-loop-path
invariant-loop-path l =
    (builds : List BuildValue) (ranks : List ℕ) → IsRanked builds ranks → l.newest ≡ max l.least (greatest (map (visible_stamp builds l.cells.state) (take l.path-index l.paths)))
