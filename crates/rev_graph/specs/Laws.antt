-- What the definitions of a graph come to.
use Rattle.std.specs.Prelude.{◌≡◌, ◌≢◌, ℕ, ◌<◌, ◌↔◌, List, Some, None}
use Rattle.rev_manifest.specs.Manifest.{BuildValue}
use Rattle.rev_graph.specs.declared.fault.GraphFault.{GraphFault}
use Rattle.rev_graph.specs.declared.fault.GraphFault.TheVariants.{Memory}
use Rattle.rev_graph.specs.Decided.{graph_fault}
use Rattle.rev_graph.specs.Fault.{Explains, IsFaultless}
use Rattle.rev_graph.specs.Graph.{Produces, EdgeReaches, IsRanked, first_double}

-- where no output has an earlier edge, no path is an output of two edges
abbrev pub OneProducer : Type 0
OneProducer =
    (builds : List BuildValue) → first_double builds ≡ None → (path : List ℕ) (a b : ℕ) → Produces builds a path
    → Produces builds b path → a ≡ b

-- the first output that an earlier edge has is an output of two edges
abbrev pub DoublesAreReal : Type 0
DoublesAreReal =
    (builds : List BuildValue) (path : List ℕ) → first_double builds ≡ Some path
    → (a : ℕ) × (b : ℕ) × (a < b) × Produces builds a path × Produces builds b path

-- where edges have ranks that fall along each step, none reaches itself
abbrev pub RankedIsAcyclic : Type 0
RankedIsAcyclic =
    (builds : List BuildValue) (ranks : List ℕ) → IsRanked builds ranks → (edge : ℕ) → EdgeReaches builds edge edge → ⊥

-- the fault as a function is a fault exactly where that one explains why edges make no graph, and none exactly where
-- they have none
pub record FaultIsDecided : Type 0 where
  pub fault : (builds : List BuildValue) (fault : GraphFault) → fault ≢ Memory
      → (graph_fault builds ≡ Some fault) ↔ Explains fault builds
  pub faultless : (builds : List BuildValue) → (graph_fault builds ≡ None) ↔ IsFaultless builds
