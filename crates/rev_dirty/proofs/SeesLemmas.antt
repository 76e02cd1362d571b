-- What visible stamps and reasons depend on.
use Rattle.std.proofs.Common.{◌≡◌, ℕ, ◌<◌, zero, suc, Bool, true, false, List, [], ◌∷◌, ◌++◌, length, flat_map, Contains, Option, Some, None, ◌⊎◌, inl, inr, refl, sym, subst, arith, if◌then◌else◌}
use Rattle.std.proofs.lemmas.List.Elements.{Contains-get_or, Contains-append_left, Contains-append_right, Contains-append_cases}
use Rattle.rev_manifest.specs.Manifest.{BuildValue}
use Rattle.rev_graph.specs.Graph.{IsRanked, build_at, producer_of, rank_at}
use Rattle.rev_graph.proofs.GraphLemmas.{producer_of-within}
use Rattle.rev_graph.proofs.StepLemmas.{only}
use Rattle.rev_causal.specs.Order.{Has}
use Rattle.rev_dirty.specs.Visible.{line_inputs}
use Rattle.rev_dirty.proofs.VisibleLemmas.{IsBelow}
use Rattle.rev_dirty.specs.Reading.{Sees, Sees.itself, Sees.through, SeenAreSeen, SeenPathsDecide, ReasonCellsDecide}
use Rattle.rev_dirty.specs.Seen.{behind, seen_paths_within, seen_paths}
use Rattle.rev_dirty.proofs.ListLemmas.{in-flat}
use Rattle.rev_dirty.proofs.SeenLemmas.{visible-same}
use Rattle.rev_dirty.proofs.SameReasons.{reasons-same, facts}

-- the two words for what stands in a list
pub to-has : {X : Type 0} (xs : List X) (x : X) → Contains xs x → Has xs x
to-has [] x (k, within, at) = absurd (omega (arith, within))
to-has (z ∷ xs) x h = elim (Contains-append_cases (z ∷ []) xs x h) [ inl here ↦ inl (only z x here) | inr there ↦ inr (to-has xs x there) ]

pub from-has : {X : Type 0} (xs : List X) (x : X) → Has xs x → Contains xs x
from-has [] x h = absurd h
from-has (z ∷ xs) x (inl e) = subst (Contains (z ∷ xs)) e (Contains-get_or (z ∷ xs) 0 z (omega arith))
from-has (z ∷ xs) x (inr h) = Contains-append_right (z ∷ []) xs x (from-has xs x h)

pub append-cases : {X : Type 0} (xs ys : List X) (x : X) → Has (xs ++ ys) x → Has xs x ⊎ Has ys x
append-cases [] ys x h = inr h
append-cases (z ∷ xs) ys x (inl e) = inl (inl e)
append-cases (z ∷ xs) ys x (inr h) = elim (append-cases xs ys x h) [ inl a ↦ inl (inr a) | inr b ↦ inr b ]

pub record FromOne {X Y : Type 0} (f : X → List Y) (xs : List X) (y : Y) : Type 0 where
  pub item : X
  pub there : Has xs item
  pub gives : Has (f item) y

pub from-flat : {X Y : Type 0} (f : X → List Y) (xs : List X) (y : Y) → Has (flat_map f xs) y → FromOne f xs y
from-flat f [] y h = absurd h
from-flat f (x ∷ xs) y h = elim (append-cases (f x) (flat_map f xs) y h) [
  | inl a ↦ record { item = x; there = inl refl; gives = a }
  | inr b ↦
      let r = from-flat f xs y b in
      record { item = r.item; there = inr r.there; gives = r.gives }
]

module _ (builds : List BuildValue) where
  -- SEEN PATHS ARE SEEN
  behind-sees : (n : ℕ) (path other : List ℕ) → ((next : List ℕ) → Has (seen_paths_within builds n next) other → Sees builds next other)
      → (o : Option ℕ) → producer_of builds path ≡ o → Has (behind builds (seen_paths_within builds n) o) other → Sees builds path other
  behind-sees n path other below None e h = absurd h
  behind-sees n path other below (Some edge) e h = by (build_at builds edge).phony refl h
    where
      by : (b : Bool) → (build_at builds edge).phony ≡ b → Has (if b then flat_map (seen_paths_within builds n) (line_inputs (build_at builds edge)) else []) other → Sees builds path other
      by true is h =
          let r = from-flat (seen_paths_within builds n) (line_inputs (build_at builds edge)) other h in
          through edge r.item e is (from-has (line_inputs (build_at builds edge)) r.item r.there) (below r.item r.gives)
      by false is h = absurd h

  sees : (n : ℕ) (path other : List ℕ) → Has (seen_paths_within builds n path) other → Sees builds path other
  sees zero path other (inl e) = subst (Sees builds path) e itself
  sees zero path other (inr h) = absurd h
  sees (suc n) path other (inl e) = subst (Sees builds path) e itself
  sees (suc n) path other (inr h) = behind-sees n path other (λ next. sees n next other) (producer_of builds path) refl h

  -- AND THE OTHER WAY ROUND
  here : (n : ℕ) (path : List ℕ) → Has (seen_paths_within builds n path) path
  here zero path = inl refl
  here (suc n) path = inl refl

  deeper : (n : ℕ) (edge : ℕ) (path next other : List ℕ) → producer_of builds path ≡ Some edge → (build_at builds edge).phony ≡ true → Has (line_inputs (build_at builds edge)) next
      → Has (seen_paths_within builds n next) other → Has (seen_paths_within builds (suc n) path) other
  deeper n edge path next other e is at h =
      let all : Has (flat_map (seen_paths_within builds n) (line_inputs (build_at builds edge))) other = in-flat (seen_paths_within builds n) (line_inputs (build_at builds edge)) next other at h in
      inr (subst (λ o. Has (behind builds (seen_paths_within builds n) o) other) (sym e)
      (subst (λ b. Has (if b then flat_map (seen_paths_within builds n) (line_inputs (build_at builds edge)) else []) other) (sym is) all))

  module _ (ranks : List ℕ) (ranked : IsRanked builds ranks) where
    below-by : (bound : ℕ) (path : List ℕ) (o : Option ℕ) → producer_of builds path ≡ o → ((edge : ℕ) → producer_of builds path ≡ Some edge → rank_at ranks edge < bound) → IsBelow builds ranks bound (producer_of builds path)
    below-by bound path None h below = rw h tt
    below-by bound path (Some edge) h below = rw h (below edge h)

    seen : {path other : List ℕ} → Sees builds path other → (n : ℕ) → IsBelow builds ranks n (producer_of builds path) → Has (seen_paths_within builds n path) other
    seen {path} itself n below = here n path
    seen {path} {other} (through edge next e is at way) zero below =
        let less : rank_at ranks edge < 0 = subst (IsBelow builds ranks 0) e below in
        absurd (omega (arith, less))
    seen {path} {other} (through edge next e is at way) (suc n) below =
        let less : rank_at ranks edge < suc n = subst (IsBelow builds ranks (suc n)) e below in
        let build = build_at builds edge in
        deeper n edge path next other e is (to-has (line_inputs build) next at)
        (seen way n (below-by n next (producer_of builds next) refl
        (λ producer p.
        let falls : rank_at ranks producer < rank_at ranks edge = ranked.falls edge producer (record { path = next; is_input = Contains-append_left (line_inputs build) build.order_only next at; produced = p }) in
        omega (arith, falls, less))))

    all-seen : (path other : List ℕ) → Sees builds path other → Has (seen_paths builds path) other
    unfolding seen_paths
    all-seen path other way =
        seen way (length builds) (below-by (length builds) path (producer_of builds path) refl (λ edge is. ranked.below edge (producer_of-within path builds edge is)))

  is-seen : (path other : List ℕ) → Has (seen_paths builds path) other → Sees builds path other
  unfolding seen_paths
  is-seen path other h = sees (length builds) path other h

pub seen-are-seen : SeenAreSeen
seen-are-seen graph path other is = (is-seen graph.manifest.builds path other, all-seen graph.manifest.builds graph.ranks is.ranked path other)

pub seen-paths-decide : SeenPathsDecide
seen-paths-decide builds s u path on = visible-same builds s u path on

pub reason-cells-decide : ReasonCellsDecide
reason-cells-decide builds s u edge on = reasons-same builds s u edge (facts builds s u edge on)
