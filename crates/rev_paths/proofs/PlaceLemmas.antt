-- The place of a name in a list of names.
use Rattle.std.proofs.Common.{◌≡◌, ℕ, ◌+◌, ◌<◌, Bool, true, false, cond, not, List, [], ◌∷◌, ◌++◌, length, get_or, slice_get, Some, None, Contains, bytes_eq, nat_lt, if◌then◌else◌, refl, sym, ap, ◌∙◌, arith, add-zero, length-append}
use Rattle.std.specs.List.{IsDistinct, list_any, position_or_len}
use Rattle.std.specs.Cmp.Lexicographic.{nat_list_eq_equiv}
use Rattle.std.proofs.lemmas.Bool.{lt-ltb, ltb-false, eq-eqb}
use Rattle.std.proofs.lemmas.Slice.Eq.{bytes_eq-Decides}
use Rattle.std.proofs.lemmas.Option.{slice_get-get_or, slice_get_within, get_or_from_slice_get}
use Rattle.std.proofs.lemmas.List.Folds.{list_any_at, position_or_len_push}
use Rattle.std.proofs.lemmas.List.Quantifiers.{position-Some}
use Rattle.std.proofs.lemmas.List.Sums.{position_or_len_is, prefix_len-le-length, fails_before_first}
use Rattle.std.proofs.lemmas.Map.Keys.{apart_from_distinct}
use Rattle.indexmap.proofs.CallerLemmas.{Contains-list_any}
use Rattle.rev_paths.specs.Paths.{place_of, with_name}

pub same_bytes : (a b : List ℕ) → bytes_eq a b ≡ true → a ≡ b
same_bytes a b h = (bytes_eq-Decides a b).0 h

pub own_bytes : (a : List ℕ) → bytes_eq a a ≡ true
own_bytes a = (bytes_eq-Decides a a).1 refl

-- a name stands at its place
pub name_at-place_of : (name : List ℕ) (names : List (List ℕ)) (i : ℕ) → place_of name names ≡ Some i → slice_get names i ≡ Some name
name_at-place_of name names i e =
    let found = position-Some (bytes_eq name) names i [] e in
    slice_get-get_or names i [] found.0 ∙ ap Some (sym (same_bytes name (get_or names i []) found.1))

-- where no name stands twice, its place is the only one
pub place_of-name_at : (name : List ℕ) (names : List (List ℕ)) (i : ℕ) → IsDistinct bytes_eq names → slice_get names i ≡ Some name → place_of name names ≡ Some i
place_of-name_at name names i distinct e =
    let within : i < length names = slice_get_within names i name e in
    let is : get_or names i [] ≡ name = get_or_from_slice_get names i name [] e in
    let apart : (k : ℕ) → k < i → bytes_eq name (get_or names k []) ≡ false = λ k h.
    nat_list_eq_equiv.symm name (get_or names k []) ∙ ap (bytes_eq (get_or names k [])) (sym is) ∙ apart_from_distinct bytes_eq names k i [] distinct h within in
    let at : position_or_len (bytes_eq name) names ≡ i =
    position_or_len_is (bytes_eq name) names i [] (omega arith) apart (λ _. ap (bytes_eq name) is ∙ own_bytes name) in
    ap (λ n. cond (nat_lt n (length names)) (Some n) None) at ∙ ap (λ b. cond b (Some i) None) (lt-ltb i (length names) within)

-- a name that has a place is there
pub there-place_of : (name : List ℕ) (names : List (List ℕ)) (i : ℕ) → place_of name names ≡ Some i → names ≡ with_name name names
there-place_of name names i e =
    let found = position-Some (bytes_eq name) names i [] e in
    ap (λ b. if b then names else names ++ name ∷ []) (sym (list_any_at (bytes_eq name) names i [] found.0 found.1))

-- a search that finds nothing goes to the end
none-len : (name : List ℕ) (names : List (List ℕ)) → place_of name names ≡ None → position_or_len (bytes_eq name) names ≡ length names
none-len name names none = by (nat_lt (position_or_len (bytes_eq name) names) (length names)) refl
  where
    by : (b : Bool) → nat_lt (position_or_len (bytes_eq name) names) (length names) ≡ b → position_or_len (bytes_eq name) names ≡ length names
    by true e =
        let some : place_of name names ≡ Some (position_or_len (bytes_eq name) names) = ap (λ c. cond c (Some (position_or_len (bytes_eq name) names)) None) e in
        let no : None ≡ Some (position_or_len (bytes_eq name) names) = sym none ∙ some in
        cc
    by false e = omega (arith, ltb-false (position_or_len (bytes_eq name) names) (length names) e, prefix_len-le-length (λ x. not (bytes_eq name x)) names)

-- a name that has no place is not there
pub place_of-absent : (name : List ℕ) (names : List (List ℕ)) → place_of name names ≡ None → Contains names name → ⊥
place_of-absent name names none (k, within, at) =
    let before : k < position_or_len (bytes_eq name) names = omega (arith, none-len name names none) in
    let no : bytes_eq name (get_or names k name) ≡ false = fails_before_first (bytes_eq name) names k name before in
    let yes : bytes_eq name (get_or names k name) ≡ true = ap (bytes_eq name) at ∙ own_bytes name in
    let both : false ≡ true = sym no ∙ yes in
    cc

-- it gets the next one
pub place_of-new : (name : List ℕ) (names : List (List ℕ)) → place_of name names ≡ None → place_of name (names ++ name ∷ []) ≡ Some (length names)
place_of-new name names none =
    let n : ℕ = position_or_len (bytes_eq name) names in
    let all : n ≡ length names = none-len name names none in
    let after : position_or_len (bytes_eq name) (names ++ name ∷ []) ≡ length names =
    position_or_len_push (bytes_eq name) names name ∙ ap (λ b. cond b (length names + cond (bytes_eq name name) 0 1) n) (eq-eqb n (length names) all)
    ∙ ap (λ b. length names + cond b 0 1) (own_bytes name) ∙ add-zero (length names) in
    let more : length names < length (names ++ name ∷ []) = omega (arith, length-append names (name ∷ [])) in
    ap (λ k. cond (nat_lt k (length (names ++ name ∷ []))) (Some k) None) after ∙ ap (λ b. cond b (Some (length names)) None) (lt-ltb (length names) (length (names ++ name ∷ [])) more)

-- and goes last
pub with_name-new : (name : List ℕ) (names : List (List ℕ)) → place_of name names ≡ None → with_name name names ≡ names ++ name ∷ []
with_name-new name names none =
    by (list_any (bytes_eq name) names) refl
  where
    by : (b : Bool) → list_any (bytes_eq name) names ≡ b → with_name name names ≡ names ++ name ∷ []
    by true e = absurd (place_of-absent name names none (Contains-list_any bytes_eq same_bytes names name e))
    by false e = ap (λ b. if b then names else names ++ name ∷ []) e
