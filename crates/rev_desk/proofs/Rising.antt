-- Numbers that rise, and breaks under such numbers.
use Rattle.std.proofs.Common.{◌≡◌, ℕ, ◌<◌, ◌≤◌, Bool, true, false, not, cond, List, [], ◌∷◌, ◌++◌, ◌||◌, length, map, filter, get_or, remove, slice_get, Some, None, Option, refl, sym, ap, subst, ◌∙◌, eq-eqb, ne_eqb, arith, zero, suc}
use Rattle.std.specs.Prelude.{nat_eq}
use Rattle.std.specs.List.{AllByRecursion}
use Rattle.rev_causal.specs.Chosen.{IsRising, is_among, without}
use Rattle.rev_causal.proofs.Chosen.{without-above, nat_eq_comm}

above_at : (k : ℕ) (ks : List ℕ) (j : ℕ) → AllByRecursion (λ y. k < y) ks → j < length ks → k < get_or ks j 0
above_at k [] j h lt = absurd (omega arith)
above_at k (x ∷ ks) zero h lt = h.0
above_at k (x ∷ ks) (suc j) h lt = above_at k ks j h.1 (omega arith)

pub removed-without : (ks : List ℕ) (place n : ℕ) → IsRising ks → place < length ks → get_or ks place 0 ≡ n → remove ks place ≡ without n ks
removed-without [] place n rising lt at = absurd (omega arith)
removed-without (k ∷ ks) zero n rising lt at =
    let same : k ≡ n = at in
    sym (ap (λ b. cond (not b) (k ∷ without n ks) (without n ks)) (eq-eqb k n same)
    ∙ without-above n ks (subst (λ m. AllByRecursion (λ y. m < y) ks) same rising.0))
removed-without (k ∷ ks) (suc place) n rising lt at =
    let less : k < get_or ks place 0 = above_at k ks place rising.0 (omega arith) in
    ap (λ xs. k ∷ xs) (removed-without ks place n rising.1 (omega arith) at)
    ∙ sym (ap (λ b. cond (not b) (k ∷ without n ks) (without n ks)) (ne_eqb k n (λ e. omega arith)))

or_first : (a b : Bool) → (a || b) ≡ false → a ≡ false
or_first true b h = h
or_first false b h = refl

or_second : (a b : Bool) → (a || b) ≡ false → b ≡ false
or_second true b h = cc
or_second false b h = h

-- what is not there need not be taken out
pub without-absent : (n : ℕ) (ks : List ℕ) → is_among ks n ≡ false → without n ks ≡ ks
without-absent n [] h = refl
without-absent n (k ∷ ks) h =
    ap (λ b. cond (not b) (k ∷ without n ks) (without n ks)) (nat_eq_comm k n ∙ or_first (nat_eq n k) (is_among ks n) h)
    ∙ ap (λ xs. k ∷ xs) (without-absent n ks (or_second (nat_eq n k) (is_among ks n) h))

module _ {A : Type 0} where
  abbrev pub firsts : List (ℕ × A) → List ℕ
  firsts bs = map (λ b. b.0) bs

  abbrev pub dropped : ℕ → List (ℕ × A) → List (ℕ × A)
  dropped n bs = filter (λ b. not (nat_eq b.0 n)) bs

  pub firsts-dropped : (n : ℕ) (bs : List (ℕ × A)) → firsts (dropped n bs) ≡ without n (firsts bs)
  firsts-dropped n [] = refl
  firsts-dropped n (b ∷ bs) =
      elim (nat_eq b.0 n) as (λ t. firsts (cond (not t) (b ∷ dropped n bs) (dropped n bs)) ≡ cond (not t) (b.0 ∷ without n (firsts bs)) (without n (firsts bs))) [
        | true ↦ firsts-dropped n bs
        | false ↦ ap (λ xs. b.0 ∷ xs) (firsts-dropped n bs)
      ]

  dropped-above : (n : ℕ) (bs : List (ℕ × A)) → AllByRecursion (λ y. n < y) (firsts bs) → dropped n bs ≡ bs
  dropped-above n [] h = refl
  dropped-above n (b ∷ bs) h =
      let less : n < b.0 = h.0 in
      ap (λ t. cond (not t) (b ∷ dropped n bs) (dropped n bs)) (ne_eqb b.0 n (λ e. omega arith)) ∙ ap (λ xs. b ∷ xs) (dropped-above n bs h.1)

  pub removed-dropped : (bs : List (ℕ × A)) (place n : ℕ) → IsRising (firsts bs) → place < length (firsts bs) → get_or (firsts bs) place 0 ≡ n → remove bs place ≡ dropped n bs
  removed-dropped [] place n rising lt at = absurd (omega arith)
  removed-dropped (b ∷ bs) zero n rising lt at =
      let same : b.0 ≡ n = at in
      sym (ap (λ t. cond (not t) (b ∷ dropped n bs) (dropped n bs)) (eq-eqb b.0 n same)
      ∙ dropped-above n bs (subst (λ m. AllByRecursion (λ y. m < y) (firsts bs)) same rising.0))
  removed-dropped (b ∷ bs) (suc place) n rising lt at =
      let less : b.0 < get_or (firsts bs) place 0 = above_at b.0 (firsts bs) place rising.0 (omega arith) in
      ap (λ xs. b ∷ xs) (removed-dropped bs place n rising.1 (omega arith) at)
      ∙ sym (ap (λ t. cond (not t) (b ∷ dropped n bs) (dropped n bs)) (ne_eqb b.0 n (λ e. omega arith)))

  -- a part of numbers that all meet a fact
  all_kept : (P : ℕ → Type 0) (p : (ℕ × A) → Bool) (bs : List (ℕ × A)) → AllByRecursion P (firsts bs) → AllByRecursion P (firsts (filter p bs))
  all_kept P p [] h = tt
  all_kept P p (b ∷ bs) h =
      elim (p b) as (λ t. AllByRecursion P (firsts (cond t (b ∷ filter p bs) (filter p bs)))) [
        | true ↦ (h.0, all_kept P p bs h.1)
        | false ↦ all_kept P p bs h.1
      ]

  pub rising_kept : (p : (ℕ × A) → Bool) (bs : List (ℕ × A)) → IsRising (firsts bs) → IsRising (firsts (filter p bs))
  rising_kept p [] h = tt
  rising_kept p (b ∷ bs) h =
      elim (p b) as (λ t. IsRising (firsts (cond t (b ∷ filter p bs) (filter p bs)))) [
        | true ↦ (all_kept (λ y. b.0 < y) p bs h.0, rising_kept p bs h.1)
        | false ↦ rising_kept p bs h.1
      ]

  -- taking out and choosing change places
  pub kept-dropped : (p : (ℕ × A) → Bool) (n : ℕ) (bs : List (ℕ × A)) → firsts (filter p (dropped n bs)) ≡ without n (firsts (filter p bs))
  kept-dropped p n [] = refl
  kept-dropped p n (b ∷ bs) = by_cases (nat_eq b.0 n) refl (p b) refl (kept-dropped p n bs)
    where
      by_cases : (t : Bool) → nat_eq b.0 n ≡ t → (u : Bool) → p b ≡ u → firsts (filter p (dropped n bs)) ≡ without n (firsts (filter p bs)) → firsts (filter p (dropped n (b ∷ bs))) ≡ without n (firsts (filter p (b ∷ bs)))
      by_cases true e true f rest =
          ap (λ v. firsts (filter p (cond (not v) (b ∷ dropped n bs) (dropped n bs)))) e ∙ rest
          ∙ sym (ap (λ v. without n (firsts (cond v (b ∷ filter p bs) (filter p bs)))) f ∙ ap (λ v. cond (not v) (b.0 ∷ without n (firsts (filter p bs))) (without n (firsts (filter p bs)))) e)
      by_cases true e false f rest =
          ap (λ v. firsts (filter p (cond (not v) (b ∷ dropped n bs) (dropped n bs)))) e ∙ rest
          ∙ sym (ap (λ v. without n (firsts (cond v (b ∷ filter p bs) (filter p bs)))) f)
      by_cases false e true f rest =
          ap (λ v. firsts (filter p (cond (not v) (b ∷ dropped n bs) (dropped n bs)))) e
          ∙ ap (λ v. firsts (cond v (b ∷ filter p (dropped n bs)) (filter p (dropped n bs)))) f
          ∙ ap (λ xs. b.0 ∷ xs) rest
          ∙ sym (ap (λ v. without n (firsts (cond v (b ∷ filter p bs) (filter p bs)))) f ∙ ap (λ v. cond (not v) (b.0 ∷ without n (firsts (filter p bs))) (without n (firsts (filter p bs)))) e)
      by_cases false e false f rest =
          ap (λ v. firsts (filter p (cond (not v) (b ∷ dropped n bs) (dropped n bs)))) e
          ∙ ap (λ v. firsts (cond v (b ∷ filter p (dropped n bs)) (filter p (dropped n bs)))) f
          ∙ rest
          ∙ sym (ap (λ v. without n (firsts (cond v (b ∷ filter p bs) (filter p bs)))) f)

  -- where the one of a number is not chosen, the number is not among the chosen ones
  pub not_chosen : (p : (ℕ × A) → Bool) (bs : List (ℕ × A)) (place : ℕ) (b : ℕ × A) → IsRising (firsts bs) → slice_get bs place ≡ Some b → p b ≡ false → without b.0 (firsts (filter p bs)) ≡ firsts (filter p bs)
  not_chosen p [] place b rising at off = refl
  not_chosen p (x ∷ bs) zero b rising at off =
      let same : x ≡ b = cc in
      let not_x : p x ≡ false = ap p same ∙ off in
      ap (λ v. without b.0 (firsts (cond v (x ∷ filter p bs) (filter p bs)))) not_x
      ∙ without-above b.0 (firsts (filter p bs)) (all_kept (λ y. b.0 < y) p bs (subst (λ (z : ℕ × A). AllByRecursion (λ y. z.0 < y) (firsts bs)) same rising.0))
      ∙ sym (ap (λ v. firsts (cond v (x ∷ filter p bs) (filter p bs))) not_x)
  not_chosen p (x ∷ bs) (suc place) b rising at off =
      let less : x.0 < b.0 = below bs place rising.0 at in
      elim (p x) as (λ v. without b.0 (firsts (cond v (x ∷ filter p bs) (filter p bs))) ≡ firsts (cond v (x ∷ filter p bs) (filter p bs))) [
        | true ↦ ap (λ t. cond (not t) (x.0 ∷ without b.0 (firsts (filter p bs))) (without b.0 (firsts (filter p bs)))) (ne_eqb x.0 b.0 (λ e. omega arith))
            ∙ ap (λ xs. x.0 ∷ xs) (not_chosen p bs place b rising.1 at off)
        | false ↦ not_chosen p bs place b rising.1 at off
      ]
    where
      below : (ys : List (ℕ × A)) (i : ℕ) → AllByRecursion (λ y. x.0 < y) (firsts ys) → slice_get ys i ≡ Some b → x.0 < b.0
      below [] i h e = absurd (none_some e)
        where
          none_some : None ≡ Some b → ⊥
          none_some e = cc
      below (y ∷ ys) zero h e = let same : y ≡ b = cc in subst (λ (z : ℕ × A). x.0 < z.0) same h.0
      below (y ∷ ys) (suc i) h e = below ys i h.1 e

  -- one more is chosen too, or not
  pub kept-push : (p : (ℕ × A) → Bool) (bs : List (ℕ × A)) (b : ℕ × A) → firsts (filter p (bs ++ b ∷ [])) ≡ cond (p b) (firsts (filter p bs) ++ b.0 ∷ []) (firsts (filter p bs))
  kept-push p [] b = elim (p b) as (λ v. firsts (cond v (b ∷ []) []) ≡ cond v (b.0 ∷ []) []) [ true ↦ refl | false ↦ refl ]
  kept-push p (x ∷ bs) b =
      elim (p x) as (λ v. firsts (cond v (x ∷ filter p (bs ++ b ∷ [])) (filter p (bs ++ b ∷ []))) ≡ cond (p b) (firsts (cond v (x ∷ filter p bs) (filter p bs)) ++ b.0 ∷ []) (firsts (cond v (x ∷ filter p bs) (filter p bs)))) [
        | true ↦ ap (λ xs. x.0 ∷ xs) (kept-push p bs b) ∙ in_front (p b) x.0 (firsts (filter p bs)) b.0
        | false ↦ kept-push p bs b
      ]
    where
      in_front : (v : Bool) (k : ℕ) (ks : List ℕ) (n : ℕ) → k ∷ cond v (ks ++ n ∷ []) ks ≡ cond v (k ∷ ks ++ n ∷ []) (k ∷ ks)
      in_front true k ks n = refl
      in_front false k ks n = refl

  pub firsts-push : (bs : List (ℕ × A)) (b : ℕ × A) → firsts (bs ++ b ∷ []) ≡ firsts bs ++ b.0 ∷ []
  firsts-push [] b = refl
  firsts-push (x ∷ bs) b = ap (λ xs. x.0 ∷ xs) (firsts-push bs b)
