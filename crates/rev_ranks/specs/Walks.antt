-- Depth-first walks, and the numbers of strongly connected components that come of the order in which one leaves nodes.
use Rattle.std.specs.Prelude.{◌≡◌, ◌≢◌, ℕ, ◌+◌, ◌-◌, ◌<◌, ◌≤◌, ◌⊎◌, Bool, false, List, [], ◌∷◌, take, length, slice_index_or}
use Rattle.std.specs.List.{Contains}
use Rattle.rev_ranks.specs.Graph.{successors_of, Reaches, Steps}
use Rattle.rev_ranks.specs.Sets.{IsMarked, unmarked}

-- the number at a place
abbrev pub at : List ℕ → ℕ → ℕ
at numbers n = slice_index_or numbers n 0

-- a node is the other, or reaches it
abbrev pub Goes : List (List ℕ) → ℕ → ℕ → Type 0
Goes graph n m = (n ≡ m) ⊎ Reaches graph n m

-- Nodes in the order in which a walk leaves them, each once. What those up to one step to is one of these, or it is not
-- left yet and the walk has come from it to that one.
pub record IsLeaving (graph : List (List ℕ)) (left : List ℕ) : Type 0 where
  pub once : (i j : ℕ) → i < j → j < length left → at left i ≢ at left j
  pub closed : (i n s : ℕ) → i < length left → Contains (take (i + 1) left) n → Steps graph n s
      → Contains (take (i + 1) left) s ⊎ Reaches graph s (at left i)

-- A walk that has met some nodes, taken so many steps of each, is at the end of a path, and has left some nodes.
pub record IsWalk (graph : List (List ℕ)) (met : List Bool) (taken path left : List ℕ) : Type 0 where
  pub each_met : length met ≡ length graph
  pub each_taken : length taken ≡ length graph
  pub known : (n : ℕ) → IsMarked met n → Contains left n ⊎ Contains path n
  pub left_met : (n : ℕ) → Contains left n → IsMarked met n
  pub path_met : (n : ℕ) → Contains path n → IsMarked met n
  pub apart : (n : ℕ) → Contains left n → Contains path n → ⊥
  pub leads : (i j : ℕ) → i < j → j < length path → Reaches graph (at path i) (at path j)
  pub once : (i j : ℕ) → i < j → j < length path → at path i ≢ at path j
  pub untaken : (n : ℕ) → slice_index_or met n false ≡ false → at taken n ≡ 0
  pub followed : (n k : ℕ) → Contains path n → k < at taken n → k < length (successors_of graph n)
      → IsMarked met (at (successors_of graph n) k)
  pub closed : (n s : ℕ) → Contains left n → Steps graph n s → IsMarked met s
  pub leaving : IsLeaving graph left
  pub few : unmarked met + (length path + length left) ≡ length graph

-- how many steps are not taken yet
abbrev pub steps_left : List (List ℕ) → List ℕ → ℕ
steps_left [] taken = 0
steps_left (nexts ∷ graph) [] = length nexts + steps_left graph []
steps_left (nexts ∷ graph) (k ∷ taken) = length nexts - k + steps_left graph taken

-- what a walk still has to do: steps to take, nodes to meet and to leave
abbrev pub work_left : List (List ℕ) → List Bool → List ℕ → List ℕ → ℕ
work_left graph met taken path = steps_left graph taken + (unmarked met + unmarked met + length path)

-- Marks and numbers before and after the nodes that a root reaches without meeting a mark got marks, of which those that
-- are open have no number yet: each of them reaches the root again.
pub record IsNumbering (graph : List (List ℕ)) (root number : ℕ) (before : List Bool) (numbers_before : List ℕ) (after : List Bool) (numbers_after open_nodes : List ℕ) : Type 0 where
  pub each_mark : length after ≡ length before
  pub each_number : length numbers_after ≡ length numbers_before
  pub root_marked : IsMarked after root
  pub keeps : (n : ℕ) → IsMarked before n → IsMarked after n
  pub keeps_number : (n : ℕ) → IsMarked before n → at numbers_after n ≡ at numbers_before n
  pub around : (n : ℕ) → IsMarked after n → IsMarked before n ⊎ (Goes graph root n × Goes graph n root)
  pub open_marked : (n : ℕ) → Contains open_nodes n → IsMarked after n
  pub open_new : (n : ℕ) → Contains open_nodes n → IsMarked before n → ⊥
  pub numbered : (n : ℕ) → IsMarked after n
      → IsMarked before n ⊎ (Contains open_nodes n ⊎ ((at numbers_after n ≡ number) × ((s : ℕ) → Steps graph n s → IsMarked after s)))

-- The nodes that have a mark have numbers below this one, which rise along no step, and are equal only along steps that
-- lead back; the others are still to come.
pub record AreNumbered (graph : List (List ℕ)) (to_come : List ℕ) (marks : List Bool) (numbers : List ℕ) (number : ℕ) : Type 0 where
  pub each_mark : length marks ≡ length graph
  pub each_number : length numbers ≡ length graph
  pub all : (n : ℕ) → n < length graph → IsMarked marks n ⊎ Contains to_come n
  pub below : (n : ℕ) → IsMarked marks n → at numbers n < number
  pub closed : (n s : ℕ) → IsMarked marks n → Steps graph n s → IsMarked marks s
  pub never_rises : (n s : ℕ) → IsMarked marks n → Steps graph n s → at numbers s ≤ at numbers n
  pub leads_back : (n s : ℕ) → IsMarked marks n → Steps graph n s → at numbers s ≡ at numbers n → Reaches graph s n
  pub few : number + length to_come ≤ length graph

-- a step along which the number stays the same leads back
abbrev pub LeadBack : List (List ℕ) → List ℕ → Type 0
LeadBack graph numbers = (n s : ℕ) → Steps graph n s → at numbers s ≡ at numbers n → Reaches graph s n
