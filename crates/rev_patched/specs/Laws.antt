-- What holds of waiting in a manifest with orders.
use Rattle.std.specs.Prelude.{◌≡◌, ◌⊎◌, ℕ, ◌<◌, List, [], length, Some}
use Rattle.std.specs.List.{Contains}
use Rattle.rev_manifest.specs.Manifest.{BuildValue, ManifestValue}
use Rattle.rev_graph.specs.Fault.{IsFaultless}
use Rattle.rev_graph.specs.Graph.{producer_of}
use Rattle.rev_waits.specs.Waits.{Waits}
use Rattle.rev_patched.specs.declared.orders.Order.{Order}
use Rattle.rev_patched.specs.Orders.{IsOrdered, paths_for}

-- an edge waits for what makes a path that is ordered before it
abbrev pub OrdersWait : Type 0
OrdersWait =
    (old new : ManifestValue) (orders : List Order) (edge maker : ℕ) (path : List ℕ) → IsOrdered old new orders
    → edge < length old.builds → Contains (paths_for orders edge) path → producer_of old.builds path ≡ Some maker
    → Waits new.builds edge maker

-- no path is ordered before an edge, nor before any that it waits for
pub record IsUntouched (builds : List BuildValue) (orders : List Order) (edge : ℕ) : Type 0 where
  pub here : paths_for orders edge ≡ []
  pub behind : (other : ℕ) → Waits builds edge other → paths_for orders other ≡ []

-- each edge waits for what it waited for, and one that no order touches for nothing else
abbrev pub OthersStay : Type 0
OthersStay =
    (old new : ManifestValue) (orders : List Order) (a b : ℕ) → IsOrdered old new orders
    → (Waits old.builds a b → Waits new.builds a b)
    × (IsUntouched old.builds orders a → Waits new.builds a b → Waits old.builds a b)

-- an order before an edge of what that edge makes itself, or of what is made by one that waits for it, makes a cycle
abbrev pub BackwardsIsFaulty : Type 0
BackwardsIsFaulty =
    (old new : ManifestValue) (orders : List Order) (edge maker : ℕ) (path : List ℕ) → IsOrdered old new orders
    → edge < length old.builds → Contains (paths_for orders edge) path → producer_of old.builds path ≡ Some maker
    → (maker ≡ edge) ⊎ Waits old.builds maker edge → IsFaultless new.builds → ⊥
