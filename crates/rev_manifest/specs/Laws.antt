-- What holds of values at every edge.
use Rattle.std.specs.Prelude.{◌≡◌, ℕ, List, Some, ◌↔◌}
use Rattle.rev_scopes.specs.Edges.{EdgeEnvValue, HasValue}
use Rattle.rev_manifest.specs.Ends.{value_at}

-- a name has a value at an edge exactly where a finite derivation gives it that value: by the paths of the edge, its
-- block, a text of its rule whose names have values, or the scopes
abbrev pub ValuesAreDerived : Type 0
ValuesAreDerived =
    (edge : EdgeEnvValue) (name value : List ℕ) → (value_at edge name ≡ Some value) ↔ HasValue edge name value
