-- What visible stamps and reasons depend on.
use Rattle.std.specs.Prelude.{◌≡◌, ℕ, true, ◌↔◌, List, Some}
use Rattle.std.specs.FinMap.{get}
use Rattle.std.specs.List.{Contains}
use Rattle.rev_manifest.specs.Manifest.{BuildValue}
use Rattle.rev_graph.specs.Graph.{GraphValue, IsGraph, build_at, producer_of}
use Rattle.rev_cells.specs.declared.cell.Cell.{Cell}
use Rattle.rev_cells.specs.State.{State, stamp_of}
use Rattle.rev_causal.specs.Order.{Has}
use Rattle.rev_dirty.specs.Reasons.{reasons_of}
use Rattle.rev_dirty.specs.Seen.{joined, reason_cells, seen_paths}
use Rattle.rev_dirty.specs.Visible.{line_inputs, visible_stamp}

-- A path is seen from itself, and from a path that a phony edge produces where it is seen from one of that edge's
-- inputs that count.
pub data Sees (builds : List BuildValue) : List ℕ → List ℕ → Type 0 where
  itself : {path : List ℕ} → Sees builds path path
  through : {path other : List ℕ} (edge : ℕ) (next : List ℕ) → producer_of builds path ≡ Some edge
      → (build_at builds edge).phony ≡ true → Contains (line_inputs (build_at builds edge)) next
      → Sees builds next other → Sees builds path other

-- in each graph the seen paths are those
abbrev pub SeenAreSeen : Type 0
SeenAreSeen =
    (graph : GraphValue) (path other : List ℕ) → IsGraph graph
    → Has (seen_paths graph.manifest.builds path) other ↔ Sees graph.manifest.builds path other

-- the visible stamp of a path depends on the stamps of the seen paths alone
abbrev pub SeenPathsDecide : Type 0
SeenPathsDecide =
    (builds : List BuildValue) (s u : State) (path : List ℕ)
    → ((other : List ℕ) → Has (seen_paths builds path) other → stamp_of u other ≡ stamp_of s other)
    → visible_stamp builds u path ≡ visible_stamp builds s path

-- the reasons of an edge depend on these cells alone
abbrev pub ReasonCellsDecide : Type 0
ReasonCellsDecide =
    (builds : List BuildValue) (s u : State) (edge : ℕ)
    → ((c : Cell) → Has (joined (reason_cells builds s edge)) c → get u c ≡ get s c)
    → reasons_of builds u edge ≡ reasons_of builds s edge
