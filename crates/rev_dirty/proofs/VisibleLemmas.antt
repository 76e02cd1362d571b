-- Visible stamps meet their equation.
use Rattle.std.proofs.Common.{◌≡◌, ℕ, ◌<◌, zero, suc, Bool, true, false, List, [], ◌∷◌, length, Option, Some, None, map, nat_eq, refl, sym, ap, ◌∙◌, arith, if◌then◌else◌}
use Rattle.std.specs.List.{Contains}
use Rattle.std.proofs.lemmas.Bool.{eqb-true}
use Rattle.std.proofs.lemmas.List.Elements.{Contains-append_left}
use Rattle.rev_manifest.specs.Manifest.{BuildValue}
use Rattle.rev_graph.specs.Graph.{IsRanked, build_at, producer_of, rank_at}
use Rattle.rev_graph.proofs.GraphLemmas.{producer_of-within}
use Rattle.rev_cells.specs.State.{State, stamp_of}
use Rattle.rev_dirty.specs.Laws.{ShowsThrough}
use Rattle.rev_dirty.specs.Visible.{greatest, line_inputs, seen_behind, seen_through, seen_within, visible_stamp}

-- two functions that agree on the elements of a list
pub map-agree : {X Y : Type 0} (f g : X → Y) (xs : List X) → ((x : X) → Contains xs x → f x ≡ g x) → map f xs ≡ map g xs
map-agree f g [] same = refl
map-agree f g (x ∷ xs) same = (λ i. same x (0, omega arith, refl) i ∷ map-agree f g xs (λ y at. same y (suc at.0, omega (arith, at.1), at.2)) i)

-- the rank of the edge that produces a path is below a bound
abbrev pub IsBelow : List BuildValue → List ℕ → ℕ → Option ℕ → Type 0
IsBelow builds ranks bound None = Unit {0}
IsBelow builds ranks bound (Some edge) = rank_at ranks edge < bound

is-below : (builds : List BuildValue) (ranks : List ℕ) (bound : ℕ) (path : List ℕ) (o : Option ℕ) → producer_of builds path ≡ o → ((edge : ℕ) → producer_of builds path ≡ Some edge → rank_at ranks edge < bound)
    → IsBelow builds ranks bound (producer_of builds path)
is-below builds ranks bound path None h below = rw h tt
is-below builds ranks bound path (Some edge) h below = rw h (below edge h)

-- the paths behind an edge are produced below its rank
behind-below : (builds : List BuildValue) (ranks : List ℕ) (bound edge : ℕ) → IsRanked builds ranks → rank_at ranks edge < suc bound
    → (path : List ℕ) → Contains (line_inputs (build_at builds edge)) path → IsBelow builds ranks bound (producer_of builds path)
behind-below builds ranks bound edge ranked less path at =
    is-below builds ranks bound path (producer_of builds path) refl
    (λ other is.
    let build = build_at builds edge in
    let falls : rank_at ranks other < rank_at ranks edge =
    ranked.falls edge other (record { path = path; is_input = Contains-append_left (line_inputs build) build.order_only path at; produced = is }) in
    omega arith)

unless-missing : (stamp : ℕ) (b : Bool) → nat_eq stamp 0 ≡ b → (if b then 0 else stamp) ≡ stamp
unless-missing stamp true h = sym (eqb-true stamp 0 h)
unless-missing stamp false h = refl

-- a path that nothing produces shows its stamp
pub unproduced : (builds : List BuildValue) (state : State) (seen : List ℕ → ℕ) (path : List ℕ) → producer_of builds path ≡ None → seen_through builds state seen path ≡ stamp_of state path
unproduced builds state seen path none =
    ap (λ o. if nat_eq (stamp_of state path) 0 then seen_behind builds seen o else stamp_of state path) none ∙ unless-missing (stamp_of state path) (nat_eq (stamp_of state path) 0) refl

none-below : (builds : List BuildValue) (ranks : List ℕ) (o : Option ℕ) → IsBelow builds ranks 0 o → o ≡ None
none-below builds ranks None h = refl
none-below builds ranks (Some edge) h = absurd (omega (arith, h))

same-behind : (builds : List BuildValue) (ranks : List ℕ) (n m : ℕ) (f g : List ℕ → ℕ) → IsRanked builds ranks
    → ((path : List ℕ) → IsBelow builds ranks n (producer_of builds path) → IsBelow builds ranks m (producer_of builds path) → f path ≡ g path)
    → (o : Option ℕ) → IsBelow builds ranks (suc n) o → IsBelow builds ranks (suc m) o → seen_behind builds f o ≡ seen_behind builds g o
same-behind builds ranks n m f g ranked same None h k = refl
same-behind builds ranks n m f g ranked same (Some edge) h k =
    ap (λ stamps. if (build_at builds edge).phony then greatest stamps else 0)
    (map-agree f g (line_inputs (build_at builds edge)) (λ path at. same path (behind-below builds ranks n edge ranked h path at) (behind-below builds ranks m edge ranked k path at)))

-- as many edges as the rank of a path's producer show all of it
pub same-seen : (builds : List BuildValue) (ranks : List ℕ) (state : State) → IsRanked builds ranks → (n m : ℕ) (path : List ℕ)
    → IsBelow builds ranks n (producer_of builds path) → IsBelow builds ranks m (producer_of builds path) → seen_within builds state n path ≡ seen_within builds state m path
same-seen builds ranks state ranked zero zero path h k = refl
same-seen builds ranks state ranked zero (suc m) path h k =
    sym (unproduced builds state (seen_within builds state m) path (none-below builds ranks (producer_of builds path) h))
same-seen builds ranks state ranked (suc n) zero path h k =
    unproduced builds state (seen_within builds state n) path (none-below builds ranks (producer_of builds path) k)
same-seen builds ranks state ranked (suc n) (suc m) path h k =
    ap (λ behind. if nat_eq (stamp_of state path) 0 then behind else stamp_of state path)
    (same-behind builds ranks n m (seen_within builds state n) (seen_within builds state m) ranked (λ p. same-seen builds ranks state ranked n m p) (producer_of builds path) h k)

all-below : (builds : List BuildValue) (ranks : List ℕ) → IsRanked builds ranks → (path : List ℕ) → IsBelow builds ranks (length builds) (producer_of builds path)
all-below builds ranks ranked path =
    is-below builds ranks (length builds) path (producer_of builds path) refl (λ edge is. ranked.below edge (producer_of-within path builds edge is))

-- the equation of visible stamps
pub visible-equation : (builds : List BuildValue) (ranks : List ℕ) (state : State) → IsRanked builds ranks → (path : List ℕ)
    → visible_stamp builds state path ≡ seen_through builds state (visible_stamp builds state) path
unfolding visible_stamp
visible-equation builds ranks state ranked path =
    same-seen builds ranks state ranked (length builds) (suc (length builds)) path (all-below builds ranks ranked path) (higher (producer_of builds path) (all-below builds ranks ranked path))
  where
    higher : (o : Option ℕ) → IsBelow builds ranks (length builds) o → IsBelow builds ranks (suc (length builds)) o
    higher None h = tt
    higher (Some edge) h = omega arith

pub shows-through : ShowsThrough
shows-through graph state path is = visible-equation graph.manifest.builds graph.ranks state is.ranked path
