-- Sets of nodes as one mark for each node.
use Rattle.std.specs.Prelude.{◌≡◌, ℕ, ◌+◌, Bool, true, false, cond, ◌||◌, List, [], ◌∷◌, length, slice_index_or, ◌<◌, ◌⊎◌}
use Rattle.std.specs.List.{All, Contains}
use Rattle.rev_ranks.specs.Graph.{Steps}
use Rattle.rev_ranks.specs.Leads.{IsReachable, leads_to}

-- the node has a mark
abbrev pub IsMarked : List Bool → ℕ → Type 0
IsMarked marks n = slice_index_or marks n false ≡ true

-- how many nodes have none
abbrev pub unmarked : List Bool → ℕ
unmarked [] = 0
unmarked (m ∷ ms) = cond m (unmarked ms) (unmarked ms + 1)

-- Marks and open nodes before and after the nodes of a list got their marks: those that had none are open now.
pub record IsMarking (nodes : List ℕ) (before : List Bool) (open_before : List ℕ) (after : List Bool) (open_after : List ℕ) : Type 0 where
  pub length_is : length after ≡ length before
  pub marks_each : (s : ℕ) → Contains nodes s → IsMarked after s
  pub keeps : (s : ℕ) → IsMarked before s → IsMarked after s
  pub adds_only : (s : ℕ) → IsMarked after s → IsMarked before s ⊎ Contains nodes s
  pub opens : (s : ℕ) → IsMarked after s → IsMarked before s ⊎ Contains open_after s
  pub keeps_open : (s : ℕ) → Contains open_before s → Contains open_after s
  pub open_are_marked : All (IsMarked before) open_before → All (IsMarked after) open_after
  pub count_is : unmarked after + length open_after ≡ unmarked before + length open_before

-- A search from roots that has come to these marks and still has to follow the steps of the open nodes.
pub record IsSearch (graph : List (List ℕ)) (roots : List ℕ) (marks : List Bool) (open_nodes : List ℕ) : Type 0 where
  pub length_is : length marks ≡ length graph
  pub sound : (k : ℕ) → IsMarked marks k → IsReachable graph roots k
  pub starts : (s : ℕ) → Contains roots s → IsMarked marks s
  pub open_are_marked : All (IsMarked marks) open_nodes
  pub closed : (k : ℕ) → IsMarked marks k → Contains open_nodes k ⊎ ((s : ℕ) → Steps graph k s → IsMarked marks s)

-- exactly the roots and what they reach have a mark
pub record IsReachableSet (graph : List (List ℕ)) (roots : List ℕ) (marks : List Bool) : Type 0 where
  pub length_is : length marks ≡ length graph
  pub sound : (k : ℕ) → IsMarked marks k → IsReachable graph roots k
  pub complete : (k : ℕ) → IsReachable graph roots k → IsMarked marks k

-- exactly the nodes that pass a test have a mark
pub record IsSetOf (graph : List (List ℕ)) (test : ℕ → Bool) (marks : List Bool) : Type 0 where
  pub length_is : length marks ≡ length graph
  pub exact : (n : ℕ) → slice_index_or marks n false ≡ test n

-- a node has a mark
abbrev pub is_marked : List Bool → ℕ → Bool
is_marked marks n = slice_index_or marks n false

-- a node has a mark, or leads to one that has
abbrev pub is_marked_or_leads : List (List ℕ) → List Bool → ℕ → Bool
is_marked_or_leads graph marks n = is_marked marks n || leads_to graph (is_marked marks) n

-- REVERSED STEPS
-- Each step of the one graph is a step back in the other, and there are no others.
pub record IsReversed (graph reversed : List (List ℕ)) : Type 0 where
  pub length_is : length reversed ≡ length graph
  pub back : (n s : ℕ) → Steps graph n s → Steps reversed s n
  pub forth : (n s : ℕ) → Steps reversed s n → Steps graph n s

-- The steps from a list of nodes to one node have been added.
pub record AddsSteps (node : ℕ) (nexts : List ℕ) (before after : List (List ℕ)) : Type 0 where
  pub length_is : length after ≡ length before
  pub adds : (s : ℕ) → Contains nexts s → Steps after s node
  pub keeps : (n s : ℕ) → Steps before s n → Steps after s n
  pub adds_only : (n s : ℕ) → Steps after s n → Steps before s n ⊎ ((n ≡ node) × Contains nexts s)

-- The steps of the first nodes are reversed.
pub record AreReversed (graph : List (List ℕ)) (nodes : ℕ) (reversed : List (List ℕ)) : Type 0 where
  pub length_is : length reversed ≡ length graph
  pub back : (n s : ℕ) → n < nodes → Steps graph n s → Steps reversed s n
  pub forth : (n s : ℕ) → Steps reversed s n → Steps graph n s
