-- Numbers of the nodes that never rise along a step, as those of strongly connected components in the order in which a
-- depth-first walk completes them.
use Rattle.std.specs.Prelude.{◌≡◌, ℕ, ◌+◌, ◌<◌, ◌≤◌, List, length, slice_index_or}
use Rattle.std.specs.List.{All}
use Rattle.rev_ranks.specs.Graph.{Steps}

-- one number for each node, below the number of nodes, and no greater at the end of each step
pub record IsCertificate (graph : List (List ℕ)) (numbers : List ℕ) : Type 0 where
  pub length_is : length numbers ≡ length graph
  pub bounded : All (λ r. r < length graph) numbers
  pub never_rises : (n s : ℕ) → Steps graph n s → slice_index_or numbers s 0 ≤ slice_index_or numbers n 0

-- the number falls along each step of a node below m
abbrev pub FallsBelow : List (List ℕ) → List ℕ → ℕ → Type 0
FallsBelow graph numbers m =
    (n s : ℕ) → n < m → Steps graph n s → slice_index_or numbers s 0 < slice_index_or numbers n 0

-- m is the least node that has a step along which the number does not fall
pub record IsFirstLevel (graph : List (List ℕ)) (numbers : List ℕ) (m : ℕ) : Type 0 where
  pub falls_below : FallsBelow graph numbers m
  pub levels : FallsBelow graph numbers (m + 1) → ⊥
