-- Orders of the nodes of a graph, of which some are commands.
use Rattle.std.specs.Prelude.{◌≡◌, ℕ, ◌<◌, List, length, slice_index_or}
use Rattle.rev_ranks.specs.Graph.{Reaches}

-- the number at a place
abbrev pub at : List ℕ → ℕ → ℕ
at numbers k = slice_index_or numbers k 0

-- The nodes of a graph in an order, and the place of each node: each node stands once, behind all that it reaches.
pub record IsOrder (graph : List (List ℕ)) (nodes places : List ℕ) : Type 0 where
  pub each_node : length nodes ≡ length graph
  pub each_place : length places ≡ length graph
  pub node_at : (k : ℕ) → k < length graph → (at nodes k < length graph) × (at places (at nodes k) ≡ k)
  pub place_of : (n : ℕ) → n < length graph → (at places n < length graph) × (at nodes (at places n) ≡ n)
  pub behind : (n m : ℕ) → Reaches graph n m → at places m < at places n
