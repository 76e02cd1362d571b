-- Whether a way in a directed graph leads from a node to one that passes a test.
use Rattle.std.specs.Prelude.{◌≡◌, ℕ, zero, suc, nat_eq, Bool, true, false, ◌||◌, ◌↔◌, List, length}
use Rattle.std.specs.List.{list_any, Contains}
use Rattle.rev_ranks.specs.Graph.{successors_of, Reaches}

-- whether a way of one step or more, and of so many at most, leads to a node that passes
abbrev pub leads_within : List (List ℕ) → (ℕ → Bool) → ℕ → ℕ → Bool
leads_within graph test zero node = false
leads_within graph test (suc most) node =
    list_any (λ next. test next || leads_within graph test most next) (successors_of graph node)

-- whether some way does: it need not have more steps than there are nodes
unfoldable pub leads_to : List (List ℕ) → (ℕ → Bool) → ℕ → Bool
leads_to graph test node = leads_within graph test (length graph) node

-- a node that is reached and passes
pub record ReachesOne (graph : List (List ℕ)) (test : ℕ → Bool) (node : ℕ) : Type 0 where
  pub other : ℕ
  pub way : Reaches graph node other
  pub passes : test other ≡ true

-- what leads somewhere is what reaches a node that passes, in every finite graph
abbrev pub LeadsExactly : Type 0
LeadsExactly = (graph : List (List ℕ)) (test : ℕ → Bool) (node : ℕ) → (leads_to graph test node ≡ true) ↔ ReachesOne graph test node

-- REACHED FROM SEVERAL NODES
abbrev pub is_one_of : List ℕ → ℕ → Bool
is_one_of numbers n = list_any (λ k. nat_eq k n) numbers

-- one of the roots, or led to by one of them
unfoldable pub is_reachable : List (List ℕ) → List ℕ → ℕ → Bool
is_reachable graph roots node = is_one_of roots node || list_any (leads_to graph (nat_eq node)) roots

-- one of the roots, and what one of them reaches
pub data IsReachable (graph : List (List ℕ)) (roots : List ℕ) : ℕ → Type 0 where
  root : {node : ℕ} → Contains roots node → IsReachable graph roots node
  behind : {start node : ℕ} → Contains roots start → Reaches graph start node → IsReachable graph roots node

-- what is said to be reachable is, in every finite graph
abbrev pub ReachableExactly : Type 0
ReachableExactly = (graph : List (List ℕ)) (roots : List ℕ) (node : ℕ) → (is_reachable graph roots node ≡ true) ↔ IsReachable graph roots node
