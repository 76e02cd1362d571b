-- Laws of visible stamps.
use Rattle.std.specs.Prelude.{◌≡◌, ℕ, List}
use Rattle.rev_graph.specs.Graph.{GraphValue, IsGraph}
use Rattle.rev_cells.specs.State.{State}
use Rattle.rev_dirty.specs.Visible.{visible_stamp, seen_through}

-- In each graph the visible stamp of a path is its stamp; but of a missing output of a phony edge it is the greatest
-- visible stamp of that edge's inputs that are not order-only, and 0 where there is none.
abbrev pub ShowsThrough : Type 0
ShowsThrough =
    (graph : GraphValue) (state : State) (path : List ℕ) → IsGraph graph
    → visible_stamp graph.manifest.builds state path
    ≡ seen_through graph.manifest.builds state (visible_stamp graph.manifest.builds state) path
