-- What a gate was told of jobs.
use Rattle.std.proofs.Common.{◌≡◌, ◌<◌, ◌≤◌, ℕ, suc, List, [], ◌∷◌, ◌++◌, Option, Some, None, IfSome, Contains, length, slice_get, refl, sym, subst, arith}
use Rattle.std.specs.List.{AllByRecursion}
use Rattle.rev_commands.specs.declared.command.Command.{Command}
use Rattle.rev_workers.specs.Tracks.{Track}
use Rattle.rev_workers.specs.Running.{AreTold, Covers, DoneValue, HaveTold, IsUnder, lesser, numbers_in, pair_up}
use Rattle.rev_workers.proofs.Covered.{under-lesser}

-- numbers that are under the lesser of two are under both
pub each-under : (a b r : Option ℕ) (ns : List ℕ) → r ≡ lesser a b → AllByRecursion (λ n. IsUnder r n → IsUnder a n × IsUnder b n) ns
each-under a b r [] is = tt
each-under a b r (n ∷ ns) is = ((λ less. under-lesser a b n (subst (λ o. IsUnder o n) is less)), each-under a b r ns is)

-- no number is under the least of them
pub none-under : (m : ℕ) (a b : Option ℕ) (ns : List ℕ) → AllByRecursion (λ k. m ≤ k) ns → AllByRecursion (λ n. IsUnder (Some m) n → IsUnder a n × IsUnder b n) ns
none-under m a b [] h = tt
none-under m a b (n ∷ ns) h = ((λ less. absurd (omega (arith, h.0, less))), none-under m a b ns h.1)

module _ {S : Type 0} (told answered : S → ℕ → ℕ → Type 0) (gate : S) where
  -- of two halves together
  pub told-joined : (a b r : Option ℕ) (js ks : List (Track × List Command)) → AllByRecursion (λ n. IsUnder r n → IsUnder a n × IsUnder b n) (numbers_in js ++ numbers_in ks)
      → HaveTold told answered gate a js → HaveTold told answered gate b ks → HaveTold told answered gate r (js ++ ks)
  told-joined a b r [] [] u h i = tt
  told-joined a b r [] (k ∷ ks) u h i = ((λ less. i.0 (u.0 less).1), told-joined a b r [] ks u.1 tt i.1)
  told-joined a b r (j ∷ js) ks u h i = ((λ less. h.0 (u.0 less).0), told-joined a b r js ks u.1 h.1 i)

  -- of none, since none is under the least of them
  pub told-lost : (n : ℕ) (js : List (Track × List Command)) → AllByRecursion (λ k. n ≤ k) (numbers_in js) → HaveTold told answered gate (Some n) js
  told-lost n [] h = tt
  told-lost n (j ∷ js) h = ((λ less. absurd (omega (arith, h.0, less))), told-lost n js h.1)

  -- of one job at most
  pub told-nobody : (o : Option ℕ) (js : List (Track × List Command)) → js ≡ [] → HaveTold told answered gate o js
  told-nobody o js is = subst (HaveTold told answered gate o) (sym is) tt

  pub told-one : (js : List (Track × List Command)) (j : Track × List Command) → js ≡ j ∷ [] → AreTold told answered gate j.0.number (length j.1) → HaveTold told answered gate None js
  told-one js j is h = subst (HaveTold told answered gate None) (sym is) ((λ _. h), tt)

  pub told-stopped : (n : ℕ) (js : List (Track × List Command)) (j : Track × List Command) → js ≡ j ∷ [] → n ≡ j.0.number → HaveTold told answered gate (Some n) js
  told-stopped n js j is same = subst (HaveTold told answered gate (Some n)) (sym is) ((λ less. absurd (omega (arith, same, less))), tt)

  -- of those under a number that is not above the least that stopped
  pub told-under : (s : Option ℕ) (n : ℕ) (js : List (Track × List Command)) → IfSome s (λ m. n ≤ m) → HaveTold told answered gate s js → HaveTold told answered gate (Some n) js
  told-under s n [] least h = tt
  told-under s n (j ∷ js) least h = ((λ less. h.0 (under s least less)), told-under s n js least h.1)
    where
      under : (o : Option ℕ) → IfSome o (λ m. n ≤ m) → j.0.number < n → IsUnder o j.0.number
      under None f less = tt
      under (Some m) f less = omega (arith, f, less)

  -- of lanes, none of which is under the least of them
  pub told-least : (n : ℕ) (ts : List Track) (lists : List (List Command)) → ((k : ℕ) (t : Track) → slice_get ts k ≡ Some t → n ≤ t.number) → HaveTold told answered gate (Some n) (pair_up ts lists)
  told-least n [] lists h = tt
  told-least n (t ∷ ts) [] h = ((λ less. absurd (omega (arith, h 0 t refl, less))), told-least n ts [] (λ k u is. h (suc k) u is))
  told-least n (t ∷ ts) (cs ∷ lists) h = ((λ less. absurd (omega (arith, h 0 t refl, less))), told-least n ts lists (λ k u is. h (suc k) u is))

  -- of no lanes
  pub told-no_lanes : (o : Option ℕ) (ts : List Track) (lists : List (List Command)) → ts ≡ [] → HaveTold told answered gate o (pair_up ts lists)
  told-no_lanes o [] lists is = tt
  told-no_lanes o (t ∷ ts) lists is = cc

-- what a thread promised of jobs and a gate, of the same jobs and the same gate
abbrev pub Promised : {A S : Type 0} → (S → ℕ → ℕ → Type 0) → (S → ℕ → ℕ → Type 0) → (A → List DoneValue) → A × Option ℕ → List (Track × List Command) → S → Type 0
Promised told answered items r js gate =
    Covers r.1 js (items r.0) × IfSome r.1 (λ n. Contains (numbers_in js) n) × HaveTold told answered gate r.1 js

pub as_promised : {A S : Type 0} (told answered : S → ℕ → ℕ → Type 0) (items : A → List DoneValue) (r : A × Option ℕ) (js ks : List (Track × List Command)) (gate here : S) → js ≡ ks → gate ≡ here
    → Promised told answered items r js gate → Promised told answered items r ks here
as_promised told answered items r js ks gate here same at h =
    subst (λ (xs : List (Track × List Command)). Promised told answered items r xs here) same
    (subst (λ x. Promised told answered items r js x) at h)
