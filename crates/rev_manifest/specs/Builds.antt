-- The edges of a manifest, and what each manifest keeps.
use Rattle.std.specs.Prelude.{◌≡◌, ℕ, ◌<◌, Bool, true, false, List, [], ◌++◌, length, All, Contains, Option, None, IfSome, bytes_eq}
use Rattle.std.specs.List.{IsDistinct}

-- an edge as a manifest has it
pub record BuildValue : Type 0 where
  pub phony : Bool
  pub explicit_outs : List (List ℕ)
  pub implicit_outs : List (List ℕ)
  pub explicit : List (List ℕ)
  pub implicit : List (List ℕ)
  pub order_only : List (List ℕ)
  pub validations : List (List ℕ)
  pub command : List ℕ
  pub depfile : List ℕ
  pub rspfile : List ℕ
  pub keeps_deps : Bool
  pub restat : Bool
  pub generator : Bool
  pub pool : Option ℕ
  pub file : ℕ
  pub line : ℕ

-- a manifest: its edges in reading order, its pools with their depths, and its defaults
pub record ManifestValue : Type 0 where
  pub builds : List BuildValue
  pub pools : List (List ℕ × ℕ)
  pub defaults : List (List ℕ)

-- the outputs of an edge in reading order: explicit, then implicit
abbrev pub outputs_of : BuildValue → List (List ℕ)
outputs_of build = build.explicit_outs ++ build.implicit_outs

-- the inputs on an edge's build line in reading order: explicit, implicit, order-only; a validation is none
abbrev pub inputs_of : BuildValue → List (List ℕ)
inputs_of build = build.explicit ++ build.implicit ++ build.order_only

-- The outputs of an edge: there is one at least, and none stands twice.
pub record AreOutputs (paths : List (List ℕ)) : Type 0 where
  pub some : 0 < length paths
  pub once : IsDistinct bytes_eq paths

-- A phony edge runs nothing: it has no command, no flags, keeps no deps, waits for no pool, and none of its outputs is
-- an input of its own.
pub record IsPhony (build : BuildValue) : Type 0 where
  pub no_command : build.command ≡ []
  pub no_depfile : build.depfile ≡ []
  pub no_rspfile : build.rspfile ≡ []
  pub no_deps : build.keeps_deps ≡ false
  pub no_restat : build.restat ≡ false
  pub no_generator : build.generator ≡ false
  pub no_pool : build.pool ≡ None
  pub no_own_input : (path : List ℕ) → Contains (outputs_of build) path → Contains (inputs_of build) path → ⊥

-- An edge of a manifest with so many pools.
pub record IsBuild (pools : ℕ) (build : BuildValue) : Type 0 where
  pub outputs : AreOutputs (outputs_of build)
  pub pool : IfSome build.pool (λ number. number < pools)
  pub phony : build.phony ≡ true → IsPhony build

-- What each manifest keeps of its edges, whatever files it was read from.
pub record IsManifest (manifest : ManifestValue) : Type 0 where
  pub builds : All (IsBuild (length manifest.pools)) manifest.builds
