-- Sets of numbers of what is told.
use Rattle.std.proofs.Common.{◌≡◌, ℕ, Bool, true, false, cond, List, [], ◌∷◌, ◌++◌, get_or, map, ◌⊎◌, inl, inr, refl, sym, ap, ◌∙◌, Contains}
use Rattle.std.specs.Prelude.{◌↔◌}
use Rattle.std.specs.BTreeSet as sorted
use Rattle.std.specs.BTreeSet.{BTreeSet}
use Rattle.std.specs.Ordering.{is_eq, nat_cmp}
use Rattle.std.specs.Cmp.Lexicographic.{slice_cmp, nat_list_cmp_total}
use Rattle.std.specs.FinMap.{slice_cmp-IsAntisymmetric, nat_cmp-IsAntisymmetric}
use Rattle.std.specs.Cmp.{eq_by_cmp_equiv, Equal-is}
use Rattle.std.proofs.lemmas.Map.Views.{btree_set_contains_iff}
use Rattle.rev_conflicts.specs.declared.place.Place.{Place}
use Rattle.rev_conflicts.specs.declared.place.Place.TheVariants.{File, Entries}
use Rattle.rev_conflicts.specs.declared.told.Told.{Told}
use Rattle.rev_conflicts.specs.Answer.{place_key}
use Rattle.rev_conflicts.specs.Tables.{IsOfMeet, meet_key, place_by, told_key}

pub added : (s n : BTreeSet (List ℕ)) (key : List ℕ) → ((q : List ℕ) → sorted.contains (slice_cmp nat_cmp) n q ≡ cond (is_eq (slice_cmp nat_cmp key q)) true (sorted.contains (slice_cmp nat_cmp) s q))
    → (k : List ℕ) → Contains n.keys k ↔ (Contains s.keys k ⊎ (k ≡ key))
added s n key h k = (forth, back)
  where
    old : (sorted.contains (slice_cmp nat_cmp) s k ≡ true) ↔ Contains s.keys k
    old = btree_set_contains_iff nat_list_cmp_total (slice_cmp-IsAntisymmetric nat_cmp-IsAntisymmetric) s k

    new : (sorted.contains (slice_cmp nat_cmp) n k ≡ true) ↔ Contains n.keys k
    new = btree_set_contains_iff nat_list_cmp_total (slice_cmp-IsAntisymmetric nat_cmp-IsAntisymmetric) n k

    by : (b : Bool) → is_eq (slice_cmp nat_cmp key k) ≡ b → cond b true (sorted.contains (slice_cmp nat_cmp) s k) ≡ true → Contains s.keys k ⊎ (k ≡ key)
    by true same e = inr (sym (slice_cmp-IsAntisymmetric nat_cmp-IsAntisymmetric key k ((Equal-is (slice_cmp nat_cmp key k)).0 same)))
    by false apart e = inl (old.0 e)

    forth : Contains n.keys k → Contains s.keys k ⊎ (k ≡ key)
    forth c = by (is_eq (slice_cmp nat_cmp key k)) refl (sym (h k) ∙ new.1 c)

    or-true : (b : Bool) → cond b true true ≡ true
    or-true true = refl
    or-true false = refl

    back : Contains s.keys k ⊎ (k ≡ key) → Contains n.keys k
    back (inl c) = new.0 (h k ∙ ap (λ b. cond (is_eq (slice_cmp nat_cmp key k)) true b) (old.1 c) ∙ or-true (is_eq (slice_cmp nat_cmp key k)))
    back (inr same) =
        new.0 (h k ∙ ap (λ b. cond b true (sorted.contains (slice_cmp nat_cmp) s k))
        (ap (λ q. is_eq (slice_cmp nat_cmp key q)) same ∙ (eq_by_cmp_equiv nat_list_cmp_total).refl key))

-- NUMBERS OF WHAT IS TOLD, TAKEN OUT ONE AFTER THE OTHER
key-push : (told : List Told) (r : Told) (rest : List (List ℕ)) → map told_key (told ++ r ∷ []) ++ rest ≡ map told_key told ++ (told_key r ∷ rest)
key-push [] r rest = refl
key-push (x ∷ xs) r rest = ap (λ (ks : List (List ℕ)). told_key x ∷ ks) (key-push xs r rest)

pub keys-more : (told all : List Told) (r : Told) (k : List ℕ) (old rest keys : List (List ℕ)) → old ≡ k ∷ rest → all ≡ told ++ r ∷ [] → told_key r ≡ k → map told_key told ++ old ≡ keys
    → map told_key all ++ rest ≡ keys
keys-more told all r k old rest keys taken pushed same before =
    ap (λ (rs : List Told). map told_key rs ++ rest) pushed ∙ key-push told r rest ∙ ap (λ x. map told_key told ++ (x ∷ rest)) same
    ∙ ap (λ (ks : List (List ℕ)). map told_key told ++ ks) (sym taken) ∙ before

-- what six numbers tell has these as its numbers
abbrev pub told_by : List ℕ → Told
told_by k =
    record { maker = get_or k 0 0; user = get_or k 1 0; place = place_by (get_or k 2 0) (get_or k 3 0); made_by = get_or k 4 0; used_by = get_or k 5 0 }

pub told-again : (t : Told) → told_by (told_key t) ≡ t
told-again t = again t.place t.maker t.user t.made_by t.used_by
  where
    again : (p : Place) (m u a b : ℕ) → told_by (meet_key m u p a b) ≡ record { maker = m; user = u; place = p; made_by = a; used_by = b }
    again (File n) m u a b = refl
    again (Entries n) m u a b = refl

pub one-told : (t u : Told) → told_key t ≡ told_key u → t ≡ u
one-told t u e = sym (told-again t) ∙ ap told_by e ∙ told-again u

pub told-key : (k : List ℕ) → IsOfMeet k → told_key (told_by k) ≡ k
told-key k is = ap (λ (x : List ℕ). told_key (told_by x)) is.is ∙ ap told_key (told-again is.told) ∙ sym is.is

pub maker-of : (k : List ℕ) (is : IsOfMeet k) → get_or k 0 0 ≡ is.told.maker
maker-of k is = ap (λ (x : List ℕ). get_or x 0 0) is.is

pub user-of : (k : List ℕ) (is : IsOfMeet k) → get_or k 1 0 ≡ is.told.user
user-of k is = ap (λ (x : List ℕ). get_or x 1 0) is.is

-- six numbers, of which two are those of a place
pub key-of : (ps : List ℕ) (p : Place) (m u a b : ℕ) → ps ≡ place_key p → m ∷ u ∷ get_or ps 0 0 ∷ get_or ps 1 0 ∷ a ∷ b ∷ [] ≡ meet_key m u p a b
key-of ps (File n) m u a b is = ap (λ (xs : List ℕ). m ∷ u ∷ get_or xs 0 0 ∷ get_or xs 1 0 ∷ a ∷ b ∷ []) is
key-of ps (Entries n) m u a b is = ap (λ (xs : List ℕ). m ∷ u ∷ get_or xs 0 0 ∷ get_or xs 1 0 ∷ a ∷ b ∷ []) is
