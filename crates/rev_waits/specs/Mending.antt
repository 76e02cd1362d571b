-- Orders that are added to build lines.
use Rattle.std.specs.Prelude.{◌≢◌, ℕ, ◌<◌, List, [], ◌∷◌, ◌++◌, length, slice_get, slice_set, IsSome}
use Rattle.rev_manifest.specs.Manifest.{BuildValue}
use Rattle.rev_graph.specs.Graph.{EdgeReaches, build_at, outputs_of}
use Rattle.rev_waits.specs.Waits.{Waits}

-- the builds with one more order-only input on the line of an edge
abbrev pub ordered : BuildValue → List ℕ → BuildValue
ordered build out = record build { order_only = build.order_only ++ out ∷ [] }

abbrev pub with_order : List BuildValue → ℕ → List ℕ → List BuildValue
with_order builds user out = slice_set builds user (ordered (build_at builds user) out)

-- with it the user waits for the maker, and no edge waits for itself
pub record Mends (builds : List BuildValue) (user maker : ℕ) (out : List ℕ) : Type 0 where
  pub waits : Waits (with_order builds user out) user maker
  pub acyclic : (edge : ℕ) → EdgeReaches (with_order builds user out) edge edge → ⊥

-- the two are not one, and the maker does not wait for the user
pub record IsApart (builds : List BuildValue) (user maker : ℕ) : Type 0 where
  pub others : maker ≢ user
  pub forth : Waits builds maker user → ⊥

-- there is such an order: between edges that are apart, of which the maker has an output
pub record CanMend (builds : List BuildValue) (user maker : ℕ) : Type 0 where
  pub user_is : user < length builds
  pub maker_is : maker < length builds
  pub apart : IsApart builds user maker
  pub has : IsSome (slice_get (outputs_of (build_at builds maker)) 0)
