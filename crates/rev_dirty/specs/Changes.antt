-- What edges changed.
use Rattle.std.specs.Prelude.{◌≡◌, ℕ, List, IfSome, nat_eq}
use Rattle.std.specs.HashSet.{HashSet}
use Rattle.std.specs.Map.{lookup}
use Rattle.rev_manifest.specs.Manifest.{BuildValue}
use Rattle.rev_graph.specs.Graph.{build_at, outputs_of, has_path}
use Rattle.rev_cells.specs.State.{State, mark_of}
use Rattle.rev_dirty.specs.Reasons.{changed_outputs}

-- keys are the outputs that an edge changed
abbrev pub AreOutputs : List BuildValue → State → ℕ → List (List ℕ) → Type 0
AreOutputs builds state edge keys =
    (path : List ℕ) → has_path keys path
    ≡ has_path (changed_outputs (mark_of state edge) (outputs_of (build_at builds edge))) path

-- each edge that was met has the outputs that it changed
abbrev pub AreChanges : {S : Type 0} → List BuildValue → State → List (ℕ × HashSet (List ℕ) S) → Type 0
AreChanges builds state entries =
    (edge : ℕ) → IfSome (lookup (nat_eq edge) entries) (λ set. AreOutputs builds state edge set.keys)
