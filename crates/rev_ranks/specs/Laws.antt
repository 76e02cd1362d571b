-- What holds of every graph.
use Rattle.std.specs.Prelude.{◌≡◌, ℕ, List}
use Rattle.rev_ranks.specs.Graph.{AreRanks, IsLeastOnCycle, Reaches}

-- where nodes have ranks no node reaches itself
abbrev pub RankedIsAcyclic : Type 0
RankedIsAcyclic = (graph : List (List ℕ)) (ranks : List ℕ) → AreRanks graph ranks → (n : ℕ) → Reaches graph n n → ⊥

-- one node at most is the least that reaches itself
abbrev pub LeastIsOne : Type 0
LeastIsOne = (graph : List (List ℕ)) (n m : ℕ) → IsLeastOnCycle graph n → IsLeastOnCycle graph m → n ≡ m
