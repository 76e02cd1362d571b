-- The numbers of a cone, found along a list of footprints under their numbers.
use Rattle.std.proofs.Common.{◌≡◌, ℕ, ◌<◌, Bool, true, false, ◌&&◌, ◌||◌, cond, List, [], ◌∷◌, ◌++◌, map, refl, sym, ap, ap₂, subst, ◌∙◌, inl, inr, eqb-true, lt-ltb, le-ltb, ltb-true, arith}
use Rattle.std.specs.Prelude.{nat_eq, nat_lt}
use Rattle.std.specs.List.{AllByRecursion, list_any}
use Rattle.std.specs.declared.option.Option.{Option}
use Rattle.std.specs.declared.option.Option.TheVariants.{None, Some}
use Rattle.rev_causal.specs.Machine.{Machine}
use Rattle.rev_causal.specs.Order.{any_conflict, cone}
use Rattle.rev_causal.specs.Entries.{Entry, entries, clash}
use Rattle.rev_causal.specs.History.{IsRising, event_at, footprints_by_number, cone_of}
use Rattle.rev_causal.proofs.ByNumber as by_number
use Rattle.rev_causal.proofs.Cones as cones
use Rattle.rev_causal.proofs.Runs.{either}

pub any_push : {A : Type 0} (p : A → Bool) (xs : List A) (x : A) → list_any p (xs ++ x ∷ []) ≡ (p x || list_any p xs)
any_push p [] x = refl
any_push p (y ∷ xs) x = ap (λ b. p y || b) (any_push p xs x) ∙ swap (p y) (p x) (list_any p xs)
  where
    swap : (a b c : Bool) → (a || (b || c)) ≡ (b || (a || c))
    swap true true c = refl
    swap true false c = refl
    swap false b c = refl

module _ (m : Machine) where
  -- those above n that conflict with one of the footprints, or with one that was taken before them
  abbrev pub cone_in : ℕ → List m.Footprint → List (ℕ × m.Footprint) → List ℕ
  cone_in n fs [] = []
  cone_in n fs (p ∷ ps) = cond (nat_lt n p.0 && list_any (λ f. m.conflict f p.1) fs) (p.0 ∷ cone_in n (fs ++ p.1 ∷ []) ps) (cone_in n fs ps)

  -- behind n's entry it is the cone
  cone_later : (n : ℕ) (s : m.State) (es : List (ℕ × m.Event)) (fs : List m.Footprint) (cs : List (Entry m)) → AllByRecursion (λ (x : ℕ × m.Event). n < x.0) es
      → ((x : Entry m) → list_any (λ f. m.conflict f x.footprint) fs ≡ any_conflict (clash m) cs x) → cone_in n fs (footprints_by_number m s es) ≡ map (λ (z : Entry m). z.number) (cone (clash m) cs (entries m s es))
  cone_later n s [] fs cs above same = refl
  cone_later n s (x ∷ xs) fs cs above same =
      let z : Entry m = record { number = x.0; event = x.1; footprint = m.footprint s x.1 } in
      let rest : List (ℕ × m.Footprint) = footprints_by_number m (m.after s x.1) xs in
      ap (λ b. cond (b && list_any (λ f. m.conflict f z.footprint) fs) (x.0 ∷ cone_in n (fs ++ z.footprint ∷ []) rest) (cone_in n fs rest)) (lt-ltb n x.0 above.0)
      ∙ ap (λ b. cond b (x.0 ∷ cone_in n (fs ++ z.footprint ∷ []) rest) (cone_in n fs rest)) (same z)
      ∙ elim (either (any_conflict (clash m) cs z)) [
        | inl t ↦
            ap (λ b. cond b (x.0 ∷ cone_in n (fs ++ z.footprint ∷ []) rest) (cone_in n fs rest)) t
            ∙ ap (λ ns. x.0 ∷ ns) (cone_later n (m.after s x.1) xs (fs ++ z.footprint ∷ []) (z ∷ cs) above.1
            (λ y. any_push (λ f. m.conflict f y.footprint) fs z.footprint ∙ ap (λ b. m.conflict z.footprint y.footprint || b) (same y)))
            ∙ sym (ap (map (λ (y : Entry m). y.number)) (cones.cone_in (clash m) cs z (entries m (m.after s x.1) xs) t))
        | inr f ↦
            ap (λ b. cond b (x.0 ∷ cone_in n (fs ++ z.footprint ∷ []) rest) (cone_in n fs rest)) f
            ∙ cone_later n (m.after s x.1) xs fs cs above.1 same
            ∙ sym (ap (map (λ (y : Entry m). y.number)) (cones.cone_out (clash m) cs z (entries m (m.after s x.1) xs) f))
      ]

  not_above : (n : ℕ) (x : ℕ × m.Event) (xs : List (ℕ × m.Event)) (s : m.State) (f : m.Footprint) → AllByRecursion (λ (y : ℕ × m.Event). x.0 < y.0) xs → event_at n (footprints_by_number m s xs) ≡ Some f → nat_lt n x.0 ≡ false
  not_above n x xs s f rising at = elim (either (nat_lt n x.0)) [
    | inl t ↦
        let less : n < x.0 = ltb-true n x.0 t in
        let none : event_at n (footprints_by_number m s xs) ≡ None = by_number.above_missing n (footprints_by_number m s xs) (by_number.numbered_all (λ k. n < k) xs _ (further xs less rising)) in
        let never : None ≡ Some f = sym none ∙ at in
        cc
    | inr o ↦ o
  ]
    where
      further : (ys : List (ℕ × m.Event)) → n < x.0 → AllByRecursion (λ (y : ℕ × m.Event). x.0 < y.0) ys → AllByRecursion (λ (y : ℕ × m.Event). n < y.0) ys
      further [] less h = tt
      further (y ∷ ys) less h = (let lt : x.0 < y.0 = h.0 in omega arith, further ys less h.1)

  -- the numbers of the cone of n, found by n's own footprint
  pub cone_found : (n : ℕ) (s : m.State) (kept : List (ℕ × m.Event)) (f : m.Footprint) → IsRising kept → event_at n (footprints_by_number m s kept) ≡ Some f
      → n ∷ cone_in n (f ∷ []) (footprints_by_number m s kept) ≡ map (λ (z : Entry m). z.number) (cone_of m n (entries m s kept))
  cone_found n s [] f rising at = cc
  cone_found n s (x ∷ xs) f rising at =
      let z : Entry m = record { number = x.0; event = x.1; footprint = m.footprint s x.1 } in
      let zs : List (Entry m) = entries m (m.after s x.1) xs in
      let rest : List (ℕ × m.Footprint) = footprints_by_number m (m.after s x.1) xs in
      elim (either (nat_eq x.0 n)) [
        | inl t ↦
            let same : x.0 ≡ n = eqb-true x.0 n t in
            let one : Some z.footprint ≡ Some f = sym (ap (λ b. cond b (Some z.footprint) (event_at n rest)) t) ∙ at in
            let print : z.footprint ≡ f = cc in
            let above : AllByRecursion (λ (y : ℕ × m.Event). n < y.0) xs = subst (λ k. AllByRecursion (λ (y : ℕ × m.Event). k < y.0) xs) same rising.0 in
            ap (λ b. n ∷ cond (b && list_any (λ g. m.conflict g z.footprint) (f ∷ [])) (x.0 ∷ cone_in n (f ∷ z.footprint ∷ []) rest) (cone_in n (f ∷ []) rest)) (le-ltb n x.0 (omega arith))
            ∙ ap₂ (λ k g. k ∷ cone_in n (g ∷ []) rest) (sym same) (sym print)
            ∙ ap (λ ns. x.0 ∷ ns) (cone_later n (m.after s x.1) xs (z.footprint ∷ []) (z ∷ []) above (λ y. refl))
            ∙ sym (ap (λ b. map (λ (y : Entry m). y.number) (cond b (z ∷ cone (clash m) (z ∷ []) zs) (cone_of m n zs))) t)
        | inr o ↦
            let there : event_at n rest ≡ Some f = sym (ap (λ b. cond b (Some z.footprint) (event_at n rest)) o) ∙ at in
            ap (λ b. n ∷ cond (b && list_any (λ g. m.conflict g z.footprint) (f ∷ [])) (x.0 ∷ cone_in n (f ∷ z.footprint ∷ []) rest) (cone_in n (f ∷ []) rest)) (not_above n x xs (m.after s x.1) f rising.0 there)
            ∙ cone_found n (m.after s x.1) xs f rising.1 there
            ∙ sym (ap (λ b. map (λ (y : Entry m). y.number) (cond b (z ∷ cone (clash m) (z ∷ []) zs) (cone_of m n zs))) o)
      ]
