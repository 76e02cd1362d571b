-- What is noted of paths, one by one.
use Rattle.std.proofs.Common.{◌≡◌, ℕ, ◌+◌, ◌<◌, ◌≤◌, Bool, true, false, ◌&&◌, ◌||◌, List, [], ◌∷◌, ◌++◌, length, get_or, set, take, drop, Option, Some, None, refl, sym, ap, ◌∙◌, arith, inl, inr}
use Rattle.std.specs.Prelude.{◌==◌, min, nat_le, nat_lt, if◌then◌else◌}
use Rattle.std.specs.List.{list_any}
use Rattle.std.specs.Option.{option_or}
use Rattle.std.proofs.lemmas.Bool.{cases_eq, eq-eqb, eqb-true, ne_eqb}
use Rattle.std.proofs.lemmas.Bool.Decides.{nat_tests}
use Rattle.std.proofs.lemmas.List.{drop_more, get_or-set_other, get_or-set_same, take_more}
use Rattle.std.proofs.lemmas.List.Folds.{list_any-append}
use Rattle.rev_observed.specs.declared.path_set.PathRange.{PathRange}
use Rattle.rev_looked.specs.Commands.{number_from}
use Rattle.rev_looked.specs.Ranges.{is_in, noted}

-- BOOLS
or-false : (b : Bool) → (b || false) ≡ b
or-false true = refl
or-false false = refl

or-true : (b : Bool) → (b || true) ≡ true
or-true true = refl
or-true false = refl

or-assoc : (a b c : Bool) → (a || (b || c)) ≡ ((a || b) || c)
or-assoc true b c = refl
or-assoc false b c = refl

-- NOTES
-- what was noted first stays
pub noted-twice : {T : Type 0} (b c : Bool) (v : T) (o : Option T) → noted b v (noted c v o) ≡ noted (c || b) v o
noted-twice true true v None = refl
noted-twice true true v (Some x) = refl
noted-twice true false v o = refl
noted-twice false true v o = refl
noted-twice false false v o = refl

noted-some : {T : Type 0} (b : Bool) (v x : T) → noted b v (Some x) ≡ Some x
noted-some true v x = refl
noted-some false v x = refl

-- a list with a value at a place
pub put-at : {X : Type 0} (xs : List X) (place p : ℕ) (x d : X) → p < length xs
    → get_or (set xs place x) p d ≡ (if place == p then x else get_or xs p d)
put-at xs place p x d within =
    elim (cases_eq place p) [
      | inl same ↦
          ap (λ q. get_or (set xs q x) p d) same ∙ get_or-set_same xs p x d within
          ∙ ap (λ (b : Bool). if b then x else get_or xs p d) (sym (eq-eqb place p same))
      | inr other ↦
          get_or-set_other xs place p x d (λ e. other (sym e))
          ∙ ap (λ (b : Bool). if b then x else get_or xs p d) (sym (ne_eqb place p other))
    ]

-- a mark at a place
pub marked-at : (xs : List Bool) (place p : ℕ) → p < length xs
    → get_or (set xs place true) p false ≡ (get_or xs p false || (place == p))
marked-at xs place p within = put-at xs place p true false within ∙ by (place == p) (get_or xs p false)
  where
    by : (b x : Bool) → (if b then true else x) ≡ (x || b)
    by true x = sym (or-true x)
    by false x = sym (or-false x)

pub marked-none : (b : Bool) → b ≡ (b || false)
marked-none b = sym (or-false b)

-- a note at a place at which nothing was noted, and at one at which something was
pub noted-at : {T : Type 0} (xs : List (Option T)) (place p : ℕ) (v : T) → p < length xs → get_or xs place None ≡ None
    → get_or (set xs place (Some v)) p None ≡ noted (place == p) v (get_or xs p None)
noted-at {T = T} xs place p v within none =
    put-at xs place p (Some v) None within ∙ by (place == p) refl
  where
    by : (b : Bool) → (place == p) ≡ b
        → (if b then Some v else get_or xs p None) ≡ noted b v (get_or xs p None)
    by true e = ap (λ o. option_or o (Some v)) (sym none ∙ ap (λ q. get_or xs q None) (eqb-true place p e))
    by false e = refl

pub noted-there : {T : Type 0} (xs : List (Option T)) (place p : ℕ) (v x : T) → get_or xs place None ≡ Some x
    → get_or xs p None ≡ noted (place == p) v (get_or xs p None)
noted-there {T = T} xs place p v x there = by (place == p) refl
  where
    by : (b : Bool) → (place == p) ≡ b → get_or xs p None ≡ noted b v (get_or xs p None)
    by true e =
        let is : get_or xs p None ≡ Some x = ap (λ q. get_or xs q None) (sym (eqb-true place p e)) ∙ there in
        is ∙ ap (λ (o : Option T). option_or o (Some v)) (sym is)
    by false e = refl

-- RANGES
-- the numbers of a range below a number
abbrev pub is_past : PathRange → ℕ → ℕ → Bool
is_past r next p = nat_le r.first p && nat_lt p next

pub past-none : (r : PathRange) (p : ℕ) → is_past r r.first p ≡ false
past-none r p = grind (arith, nat_tests)

pub past-more : (r : PathRange) (next p : ℕ) → r.first ≤ next → (is_past r next p || (next == p)) ≡ is_past r (next + 1) p
past-more r next p from = grind (arith, nat_tests)

pub past-all : (r : PathRange) (count next p : ℕ) → p < count → next ≡ min (r.last + 1) count → is_past r next p ≡ is_in p r
past-all r count next p within end = grind (arith, nat_tests)

pub none-in : (r : PathRange) (count p : ℕ) → p < count → min (r.last + 1) count ≤ r.first → is_in p r ≡ false
none-in r count p within empty = grind (arith, nat_tests)

-- one more of a list that may pass
pub any-next : {X : Type 0} (p : X → Bool) (xs : List X) (i : ℕ) (d : X) → i < length xs
    → list_any p (take (i + 1) xs) ≡ (list_any p (take i xs) || p (get_or xs i d))
any-next p xs i d within =
    ap (list_any p) (take_more xs i d within) ∙ list_any-append p (take i xs) (get_or xs i d ∷ [])
    ∙ ap (λ b. list_any p (take i xs) || b) (or-false (p (get_or xs i d)))

pub or-next : (before any here : Bool) → ((before || any) || here) ≡ (before || (any || here))
or-next before any here = sym (or-assoc before any here)

-- one of three lists has an element that passes
pub any-of-three : {X : Type 0} (p : X → Bool) (xs ys zs : List X)
    → list_any p (xs ++ ys ++ zs) ≡ ((list_any p xs || list_any p ys) || list_any p zs)
any-of-three p xs ys zs = list_any-append p (xs ++ ys) zs ∙ ap (λ b. b || list_any p zs) (list_any-append p xs ys)

-- NUMBERS OF COMMANDS
pub number-at : (edges : List ℕ) (n edge : ℕ) → n < length edges
    → (if get_or edges n 0 == edge then Some n else number_from (n + 1) (drop (n + 1) edges) edge)
    ≡ number_from n (drop n edges) edge
number-at edges n edge within = ap (λ es. number_from n es edge) (sym (drop_more edges n 0 within))
