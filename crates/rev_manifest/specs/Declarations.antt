-- What the statements above a place declare.
use Rattle.std.specs.Prelude.{ℕ, ◌-◌, List, [], ◌∷◌, ◌++◌, Option, Some, None}
use Rattle.rev_scopes.specs.Scopes.{ScopeValue, RuleValue, empty_scope}
use Rattle.rev_manifest.specs.Pools.{PoolValue, console}
use Rattle.rev_manifest.specs.declared.fault.Place.{Place}
use Rattle.rev_manifest.specs.declared.declarations.TheConstants.{MAX_MADE_BYTES}

-- the canonical paths of a build line
pub record PathsValue : Type 0 where
  pub outs : List (List ℕ)
  pub implicit_outs : List (List ℕ)
  pub ins : List (List ℕ)
  pub implicit : List (List ℕ)
  pub order_only : List (List ℕ)
  pub validations : List (List ℕ)

-- an edge before all files are read
pub record DeclaredEdgeValue : Type 0 where
  -- its rule as it stands in the scopes at the build line; `phony` is none
  pub rule : Option RuleValue
  -- the values of its block
  pub block : List (List ℕ × List ℕ)
  -- the scope of its build line
  pub scope : ℕ
  pub paths : PathsValue
  pub place : Place

-- scopes and pools, edges in reading order, what `default` statements name, if there was one, how many bytes may still be
-- read, and how many bytes of values may still be made
pub record DeclarationsValue : Type 0 where
  pub scopes : List ScopeValue
  pub pools : List PoolValue
  pub edges : List DeclaredEdgeValue
  pub defaults : Option (List (List ℕ))
  pub room : ℕ
  pub value_room : ℕ

-- before the first statement there are the manifest's scope and the pool `console`, and no value was made
abbrev pub nothing : ℕ → DeclarationsValue
nothing room = record { scopes = empty_scope None ∷ []; pools = console ∷ []; edges = []; defaults = None; room = room; value_room = MAX_MADE_BYTES }

-- so many bytes were read
abbrev pub after_bytes : ℕ → DeclarationsValue → DeclarationsValue
after_bytes bytes above = record above { room = above.room - bytes }

-- the paths of a further `default` statement
abbrev pub more_defaults : Option (List (List ℕ)) → List (List ℕ) → List (List ℕ)
more_defaults None paths = paths
more_defaults (Some defaults) paths = defaults ++ paths
