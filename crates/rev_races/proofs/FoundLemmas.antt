-- Sets of numbers of races.
use Rattle.std.proofs.Common.{◌≡◌, ℕ, Bool, true, false, cond, List, [], ◌∷◌, ◌++◌, length, get_or, map, ◌⊎◌, inl, inr, refl, sym, ap, ◌∙◌, arith, Contains}
use Rattle.std.specs.Prelude.{◌↔◌}
use Rattle.std.specs.BTreeSet as sorted
use Rattle.std.specs.BTreeSet.{BTreeSet}
use Rattle.std.specs.Ordering.{is_eq, nat_cmp}
use Rattle.std.specs.Cmp.Lexicographic.{slice_cmp, nat_list_cmp_total}
use Rattle.std.specs.FinMap.{slice_cmp-IsAntisymmetric, nat_cmp-IsAntisymmetric}
use Rattle.std.specs.Cmp.{eq_by_cmp_equiv, Equal-is}
use Rattle.std.proofs.lemmas.Map.Views.{btree_set_contains_iff}
use Rattle.rev_races.specs.declared.told.Told.{Told}
use Rattle.rev_races.specs.Keys.{told_key}

pub added : (s n : BTreeSet (List ℕ)) (key : List ℕ) → ((q : List ℕ) → sorted.contains (slice_cmp nat_cmp) n q ≡ cond (is_eq (slice_cmp nat_cmp key q)) true (sorted.contains (slice_cmp nat_cmp) s q))
    → (k : List ℕ) → Contains n.keys k ↔ (Contains s.keys k ⊎ (k ≡ key))
added s n key h k = (forth, back)
  where
    old : (sorted.contains (slice_cmp nat_cmp) s k ≡ true) ↔ Contains s.keys k
    old = btree_set_contains_iff nat_list_cmp_total (slice_cmp-IsAntisymmetric nat_cmp-IsAntisymmetric) s k

    new : (sorted.contains (slice_cmp nat_cmp) n k ≡ true) ↔ Contains n.keys k
    new = btree_set_contains_iff nat_list_cmp_total (slice_cmp-IsAntisymmetric nat_cmp-IsAntisymmetric) n k

    by : (b : Bool) → is_eq (slice_cmp nat_cmp key k) ≡ b → cond b true (sorted.contains (slice_cmp nat_cmp) s k) ≡ true → Contains s.keys k ⊎ (k ≡ key)
    by true same e = inr (sym (slice_cmp-IsAntisymmetric nat_cmp-IsAntisymmetric key k ((Equal-is (slice_cmp nat_cmp key k)).0 same)))
    by false apart e = inl (old.0 e)

    forth : Contains n.keys k → Contains s.keys k ⊎ (k ≡ key)
    forth c = by (is_eq (slice_cmp nat_cmp key k)) refl (sym (h k) ∙ new.1 c)

    or-true : (b : Bool) → cond b true true ≡ true
    or-true true = refl
    or-true false = refl

    back : Contains s.keys k ⊎ (k ≡ key) → Contains n.keys k
    back (inl c) = new.0 (h k ∙ ap (λ b. cond (is_eq (slice_cmp nat_cmp key k)) true b) (old.1 c) ∙ or-true (is_eq (slice_cmp nat_cmp key k)))
    back (inr same) =
        new.0 (h k ∙ ap (λ b. cond b true (sorted.contains (slice_cmp nat_cmp) s k))
        (ap (λ q. is_eq (slice_cmp nat_cmp key q)) same ∙ (eq_by_cmp_equiv nat_list_cmp_total).refl key))

-- NUMBERS OF RACES, TAKEN OUT ONE AFTER THE OTHER
pub three : (k : List ℕ) → length k ≡ 3 → get_or k 0 0 ∷ get_or k 1 0 ∷ get_or k 2 0 ∷ [] ≡ k
three [] e = absurd (omega (arith, e))
three (a ∷ []) e = absurd (omega (arith, e))
three (a ∷ b ∷ []) e = absurd (omega (arith, e))
three (a ∷ b ∷ c ∷ []) e = refl
three (a ∷ b ∷ c ∷ d ∷ ks) e = absurd (omega (arith, e))

key-push : (races : List Told) (r : Told) (rest : List (List ℕ)) → map told_key (races ++ r ∷ []) ++ rest ≡ map told_key races ++ (told_key r ∷ rest)
key-push [] r rest = refl
key-push (x ∷ xs) r rest = ap (λ (ks : List (List ℕ)). told_key x ∷ ks) (key-push xs r rest)

pub keys-more : (races all : List Told) (r : Told) (k : List ℕ) (old rest keys : List (List ℕ)) → old ≡ k ∷ rest → all ≡ races ++ r ∷ [] → told_key r ≡ k → map told_key races ++ old ≡ keys
    → map told_key all ++ rest ≡ keys
keys-more races all r k old rest keys taken pushed same before =
    ap (λ (rs : List Told). map told_key rs ++ rest) pushed ∙ key-push races r rest ∙ ap (λ x. map told_key races ++ (x ∷ rest)) same
    ∙ ap (λ (ks : List (List ℕ)). map told_key races ++ ks) (sym taken) ∙ before
