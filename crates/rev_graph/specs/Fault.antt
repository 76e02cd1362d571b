-- Why edges make no graph.
use Rattle.std.specs.Prelude.{◌≡◌, ℕ, ◌<◌, ◌≤◌, List, length, Option, Some, None}
use Rattle.rev_manifest.specs.Manifest.{BuildValue}
use Rattle.rev_graph.specs.declared.fault.GraphFault.{GraphFault}
use Rattle.rev_graph.specs.declared.fault.GraphFault.TheVariants.{Memory, TooManyEdges, MultipleProducers, Cycle}
use Rattle.rev_graph.specs.Graph.{first_double, NamesCycle, EdgeReaches}
use Rattle.rev_graph.specs.declared.graph.TheConstants.Graph.{MAX_EDGES}

-- the numbers of the faults
abbrev pub code_of : GraphFault → Option ℕ
code_of Memory = None
code_of TooManyEdges = Some 42
code_of (MultipleProducers path) = Some 40
code_of (Cycle path) = Some 41

-- the path that a fault names
abbrev pub path_of : GraphFault → Option (List ℕ)
path_of Memory = None
path_of TooManyEdges = None
path_of (MultipleProducers path) = Some path
path_of (Cycle path) = Some path

-- what each fault says of the edges; they are asked for in this order
abbrev pub Explains : GraphFault → List BuildValue → Type 0
Explains Memory builds = Unit {0}
Explains TooManyEdges builds = MAX_EDGES < length builds
Explains (MultipleProducers path) builds = (length builds ≤ MAX_EDGES) × (first_double builds ≡ Some path)
Explains (Cycle path) builds = (length builds ≤ MAX_EDGES) × (first_double builds ≡ None) × NamesCycle builds path

-- Edges that have none of the faults.
pub record IsFaultless (builds : List BuildValue) : Type 0 where
  pub few : length builds ≤ MAX_EDGES
  pub single : first_double builds ≡ None
  pub acyclic : (edge : ℕ) → EdgeReaches builds edge edge → ⊥
