-- The phony edges behind paths.
use Rattle.std.specs.Prelude.{◌≡◌, ℕ, ◌++◌, List, Option, map}
use Rattle.std.specs.List.{filter_map, flat_map}
use Rattle.rev_manifest.specs.Manifest.{BuildValue}
use Rattle.rev_graph.specs.Graph.{build_at, producer_of}
use Rattle.rev_cells.specs.declared.cell.Cell.{Cell}
use Rattle.rev_causal.specs.Order.{Has}
use Rattle.rev_dirty.specs.Facts.{phony_only}
use Rattle.rev_dirty.specs.Seen.{stamp_cells}
use Rattle.rev_dirty.specs.Visible.{line_inputs}
use Rattle.rev_dirty.specs.Walk.{IsPhonyEdge}

-- the phony edges that produce some of these paths
abbrev pub phony_producers : List BuildValue → List (List ℕ) → List ℕ
phony_producers builds paths = filter_map (λ path. phony_only builds (producer_of builds path)) paths

-- the phony edges among producers
abbrev pub phony_among : List BuildValue → List (Option ℕ) → List ℕ
phony_among builds producers = filter_map (phony_only builds) producers

-- these are the producers of some paths
abbrev pub AreProducers : List BuildValue → List (Option ℕ) → Type 0
AreProducers builds producers = (paths : List (List ℕ)) × (producers ≡ map (producer_of builds) paths)

-- the phony edges whose outputs a phony edge has among its inputs that count
abbrev pub next_edges : List BuildValue → ℕ → List ℕ
next_edges builds edge = phony_producers builds (line_inputs (build_at builds edge))

-- An edge is behind edges where it is one of them, or comes next of one that is behind them.
pub data IsBehind (builds : List BuildValue) (edges : List ℕ) : ℕ → Type 0 where
  itself : {edge : ℕ} → Has edges edge → IsBehind builds edges edge
  further : {edge other : ℕ} → IsBehind builds edges edge → Has (next_edges builds edge) other
      → IsBehind builds edges other

abbrev pub ArePhony : List BuildValue → List ℕ → Type 0
ArePhony builds edges = (edge : ℕ) → Has edges edge → IsPhonyEdge builds edge

-- exactly the edges behind these, which are phony
pub record AreBehind (builds : List BuildValue) (edges all : List ℕ) : Type 0 where
  pub behind : (edge : ℕ) → Has all edge → IsBehind builds edges edge
  pub kept : (edge : ℕ) → Has edges edge → Has all edge
  pub closed : (edge other : ℕ) → Has all edge → Has (next_edges builds edge) other → Has all other
  pub phony : ArePhony builds all

-- A list grew by some of these, and has all of them.
pub record Grows (old new more : List ℕ) : Type 0 where
  pub rest : List ℕ
  pub is : new ≡ old ++ rest
  pub only : (edge : ℕ) → Has rest edge → Has more edge
  pub added : (edge : ℕ) → Has more edge → Has new edge

-- the stamps of the inputs that count of edges
abbrev pub stamps_behind : List BuildValue → List ℕ → List Cell
stamps_behind builds edges = flat_map (λ edge. stamp_cells (line_inputs (build_at builds edge))) edges
