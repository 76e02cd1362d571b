-- Directed graphs: each node is a number, and steps to the nodes of its list.
use Rattle.std.specs.Prelude.{◌≡◌, ℕ, ◌<◌, List, [], map, length, slice_index_or}
use Rattle.std.specs.Global.{Vec}
use Rattle.std.specs.List.{All, Contains}

-- the graph whose node n steps to each node of the n-th list
abbrev pub graph_of : List (Vec ℕ) → List (List ℕ)
graph_of successors = map (λ (v : Vec ℕ). v.items) successors

-- the nodes that n steps to; what is no node steps nowhere
abbrev pub successors_of : List (List ℕ) → ℕ → List ℕ
successors_of graph n = slice_index_or graph n []

-- n steps to s
abbrev pub Steps : List (List ℕ) → ℕ → ℕ → Type 0
Steps graph n s = Contains (successors_of graph n) s

-- A way of one step or more leads from n to m.
pub data Reaches (graph : List (List ℕ)) : ℕ → ℕ → Type 0 where
  step : {n m : ℕ} → Steps graph n m → Reaches graph n m
  further : {n s m : ℕ} → Steps graph n s → Reaches graph s m → Reaches graph n m

-- Ranks of the nodes: one for each, below the number of nodes, and less at the end of each step.
pub record AreRanks (graph : List (List ℕ)) (ranks : List ℕ) : Type 0 where
  pub length_is : length ranks ≡ length graph
  pub bounded : All (λ r. r < length graph) ranks
  pub falls : (n s : ℕ) → Steps graph n s → slice_index_or ranks s 0 < slice_index_or ranks n 0

-- n is the least node that reaches itself.
pub record IsLeastOnCycle (graph : List (List ℕ)) (n : ℕ) : Type 0 where
  pub is_node : n < length graph
  pub on_cycle : Reaches graph n n
  pub least : (k : ℕ) → k < n → Reaches graph k k → ⊥
