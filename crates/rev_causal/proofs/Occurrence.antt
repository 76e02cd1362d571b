-- Equal events matched by occurrence: there is one such list at most, and renumbering finds it.
use Rattle.std.proofs.Common.{◌≡◌, ℕ, ◌<◌, ◌+◌, Bool, true, false, cond, List, [], ◌∷◌, ◌++◌, map, sym, refl, ap, subst, ◌∙◌, ◌⊎◌, inl, inr, true≢false, arith}
use Rattle.std.specs.List.{AllByRecursion, count_by}
use Rattle.std.proofs.lemmas.List.Sums.{sum_by-cons}
use Rattle.std.specs.declared.option.Option.{Option}
use Rattle.std.specs.declared.option.Option.TheVariants.{None, Some}
use Rattle.std.specs.Prelude.{option_map}
use Rattle.rev_causal.specs.Order.{Has, Stands, Distinct}
use Rattle.rev_causal.specs.History.{IsRising, without}
use Rattle.rev_causal.specs.OrderCheck.{IsEquality, number_in, bare, IsMatched, SameEvents, first_of, where_found, renumbered, MatchingIsExact, NoMatchingWhereEventsDiffer, EqualWritersConflict, AlwaysWrites, EqualEventsConflict}
use Rattle.std.specs.Cmp.{IsTotalOrder}
use Rattle.std.specs.declared.cmp.Ordering.{Ordering}
use Rattle.std.specs.FinMap.{IsAntisymmetric}
use Rattle.rev_causal.specs.Store.{Table, machine_of}
use Rattle.rev_causal.proofs.Store as store
use Rattle.rev_causal.proofs.Runs.{either}
use Rattle.rev_causal.proofs.Order
use Rattle.rev_causal.proofs.Numbers as numbers
use Rattle.rev_causal.proofs.Laws as laws
use Rattle.rev_causal.proofs.ByNumber as by_number

-- an option is one of two
pub none_or : {A : Type 0} (o : Option A) → (o ≡ None) ⊎ ((a : A) × (o ≡ Some a))
none_or None = inl refl
none_or (Some a) = inr (a, refl)

module _ {A : Type 0} where
  has_parts : (front rest : List A) (x : A) → Has (front ++ rest) x → Has front x ⊎ Has rest x
  has_parts [] rest x h = inr h
  has_parts (y ∷ front) rest x h = elim h [
    | inl p ↦ inl (inl p)
    | inr r ↦ elim (has_parts front rest x r) [ inl p ↦ inl (inr p) | inr q ↦ inr q ]
  ]

  stands_from : (front : List A) (z : A) (rest : List A) (y : A) → Has rest y → Stands z y (front ++ z ∷ rest)
  stands_from [] z rest y h = inl (refl, h)
  stands_from (x ∷ front) z rest y h = inr (stands_from front z rest y h)

  stands_remove : (y : A) (front rest : List A) (a b : A) → Stands a b (front ++ y ∷ rest) → (y ≡ a → ⊥) → (y ≡ b → ⊥) → Stands a b (front ++ rest)
  stands_remove y [] rest a b h na nb = elim h [ inl w ↦ absurd (na w.0) | inr r ↦ r ]
  stands_remove y (x ∷ front) rest a b h na nb = elim h [
    | inl w ↦ inl (w.0, elim ((Order.has_insert y front rest b).0 w.1) [ inl p ↦ absurd (nb p) | inr r ↦ r ])
    | inr r ↦ inr (stands_remove y front rest a b r na nb)
  ]

module _ {E : Type 0} where
  numbers_above : (k : ℕ) (xs : List (ℕ × E)) → AllByRecursion (λ (x : ℕ × E). k < x.0) xs → Has (map number_in xs) k → ⊥
  numbers_above k [] all h = h
  numbers_above k (x ∷ xs) all h = elim h [
    | inl p ↦ absurd (omega (arith, all.0))
    | inr r ↦ numbers_above k xs all.1 r
  ]

  pub rising_once : (xs : List (ℕ × E)) → IsRising xs → Distinct (map number_in xs)
  rising_once [] h = tt
  rising_once (x ∷ xs) h = (numbers_above x.0 xs h.0, rising_once xs h.1)

  pub rising_each : (xs : List (ℕ × E)) → IsRising xs → Distinct xs
  rising_each xs h = laws.distinct_of_map number_in xs (rising_once xs h)

  below_middle : (front : List (ℕ × E)) (x : ℕ × E) (rest : List (ℕ × E)) → IsRising (front ++ x ∷ rest) → AllByRecursion (λ (y : ℕ × E). y.0 < x.0) front
  below_middle [] x rest h = tt
  below_middle (y ∷ front) x rest h = (numbers.all_middle (λ (z : ℕ × E). y.0 < z.0) front rest x h.0, below_middle front x rest h.1)

  -- a matched list without its first event
  matched_rest : (z : ℕ × E) (zs front rest : List (ℕ × E)) → Distinct (front ++ z ∷ rest) → IsMatched (front ++ z ∷ rest) (z ∷ zs) → IsMatched (front ++ rest) zs
  matched_rest z zs front rest d m =
      let new : Has zs z → ⊥ = λ h. m.once.0 (laws.has_map number_in zs z h) in
      record {
        same = λ x. (
          λ h. elim ((m.same x).0 ((Order.has_insert z front rest x).1 (inr h))) [
            | inl p ↦ absurd ((Order.distinct_insert z front rest d).1 (subst (Has (front ++ rest)) (sym p) h))
            | inr r ↦ r
          ],
          λ h. elim ((Order.has_insert z front rest x).0 ((m.same x).1 (inr h))) [
            | inl p ↦ absurd (new (subst (Has zs) (sym p) h))
            | inr r ↦ r
          ],
        );
        once = m.once.1;
        in_turn = λ a b e st.
            let both : Has zs a × Has zs b = Order.stands_has a b zs st in
            stands_remove z front rest a b (m.in_turn a b e (inr st)) (λ p. new (subst (Has zs) (sym p) both.0)) (λ p. new (subst (Has zs) (sym p) both.1));
      }

  -- the first of two matched lists of the same events has the same number
  same_first : (xs : List (ℕ × E)) (z w : ℕ × E) (zs ws : List (ℕ × E)) → Distinct xs → IsMatched xs (z ∷ zs) → IsMatched xs (w ∷ ws) → z.1 ≡ w.1 → z ≡ w
  same_first xs z w zs ws d m n e = elim ((m.same w).0 ((n.same w).1 (inl refl))) [
    | inl p ↦ p
    | inr r ↦ elim ((n.same z).0 ((m.same z).1 (inl refl))) [
      | inl p ↦ sym p
      | inr q ↦ absurd (Order.one_order z w xs d (m.in_turn z w e (inl (refl, r))) (n.in_turn w z (sym e) (inl (refl, q))))
    ]
  ]

  -- there is one matched list at most with those events
  pub matched_once : (xs zs ws : List (ℕ × E)) → Distinct xs → IsMatched xs zs → IsMatched xs ws → bare zs ≡ bare ws → zs ≡ ws
  matched_once xs [] [] d m n e = refl
  matched_once xs [] (w ∷ ws) d m n e = cc
  matched_once xs (z ∷ zs) [] d m n e = cc
  matched_once xs (z ∷ zs) (w ∷ ws) d m n e =
      let event : z.1 ≡ w.1 = cc in
      let further : bare zs ≡ bare ws = cc in
      let head : z ≡ w = same_first xs z w zs ws d m n event in
      let c : Order.Cut z xs = Order.cut_at z xs ((m.same z).1 (inl refl)) in
      let cut_d : Distinct (c.front ++ z ∷ c.rest) = subst Distinct c.is d in
      let here : IsMatched (c.front ++ c.rest) zs = matched_rest z zs c.front c.rest cut_d (subst (λ ys. IsMatched ys (z ∷ zs)) c.is m) in
      let there : IsMatched (c.front ++ c.rest) ws = matched_rest z ws c.front c.rest cut_d (subst (λ ys. IsMatched ys (z ∷ ws)) c.is (subst (λ y. IsMatched xs (y ∷ ws)) (sym head) n)) in
      λ i. head i ∷ matched_once (c.front ++ c.rest) zs ws (Order.distinct_insert z c.front c.rest cut_d).0 here there further i

module _ {E : Type 0} (same : E → E → Bool) (q : IsEquality same) where
  -- the first equal event, and what stands before it
  record FirstAt (y : E) (n : ℕ) (xs : List (ℕ × E)) : Type 0 where
    front : List (ℕ × E)
    rest : List (ℕ × E)
    is : xs ≡ front ++ (n, y) ∷ rest
    none : (x : ℕ × E) → Has front x → same y x.1 ≡ false

  first_at : (y : E) (n : ℕ) (xs : List (ℕ × E)) → first_of same y xs ≡ Some n → FirstAt y n xs
  first_at y n [] h = cc
  first_at y n (x ∷ xs) h = elim (either (same y x.1)) [
    | inl t ↦
        let found : Some x.0 ≡ Some n = subst (λ b. cond b (Some x.0) (first_of same y xs) ≡ Some n) t h in
        let number : x.0 ≡ n = cc in
        let event : x.1 ≡ y = sym (q.equal y x.1 t) in
        record { front = []; rest = xs; is = λ i. (number i, event i) ∷ xs; none = λ z k. absurd k }
    | inr f ↦
        let c : FirstAt y n xs = first_at y n xs (subst (λ b. cond b (Some x.0) (first_of same y xs) ≡ Some n) f h) in
        record {
          front = x ∷ c.front;
          rest = c.rest;
          is = ap (λ zs. x ∷ zs) c.is;
          none = λ z k. elim k [ inl p ↦ ap (λ (w : ℕ × E). same y w.1) (sym p) ∙ f | inr r ↦ c.none z r ];
        }
  ]

  -- an event joins a matched list at its front, where none before its place equals it
  matched_more : (n : ℕ) (y : E) (front rest zs : List (ℕ × E)) → IsRising (front ++ (n, y) ∷ rest) → ((x : ℕ × E) → Has front x → same y x.1 ≡ false) → IsMatched (front ++ rest) zs → IsMatched (front ++ (n, y) ∷ rest) ((n, y) ∷ zs)
  matched_more n y front rest zs rising none m =
      let d : Distinct (front ++ (n, y) ∷ rest) = rising_each (front ++ (n, y) ∷ rest) rising in
      record {
        same = λ x. (
          λ h. elim ((Order.has_insert (n, y) front rest x).0 h) [ inl p ↦ inl p | inr r ↦ inr ((m.same x).0 r) ],
          λ h. (Order.has_insert (n, y) front rest x).1 (elim h [ inl p ↦ inl p | inr r ↦ inr ((m.same x).1 r) ]),
        );
        once = (
          λ h.
              let k : (z : ℕ × E) × Has zs z × (number_in z ≡ n) = laws.map_has number_in zs n h in
              let there : Has (front ++ rest) k.0 = (m.same k.0).1 k.1 in
              let is : k.0 ≡ (n, y) = laws.one_image number_in (front ++ (n, y) ∷ rest) (rising_once (front ++ (n, y) ∷ rest) rising) k.0 (n, y)
              ((Order.has_insert (n, y) front rest k.0).1 (inr there)) ((Order.has_insert (n, y) front rest (n, y)).1 (inl refl)) k.2 in
              (Order.distinct_insert (n, y) front rest d).1 (subst (Has (front ++ rest)) is there),
          m.once,
        );
        in_turn = λ a b e st. elim st [
          | inl w ↦ elim (has_parts front rest b ((m.same b).1 w.1)) [
            | inl p ↦ absurd (true≢false (sym (q.itself y) ∙ ap (same y) (ap (λ (x : ℕ × E). x.1) w.0 ∙ e) ∙ none b p))
            | inr r ↦ subst (λ x. Stands x b (front ++ (n, y) ∷ rest)) w.0 (stands_from front (n, y) rest b r)
          ]
          | inr r ↦ Order.stands_insert (n, y) front rest a b (m.in_turn a b e r)
        ];
      }

  -- the list without the first equal event
  without_first : (n : ℕ) (y : E) (xs : List (ℕ × E)) → IsRising xs → (c : FirstAt y n xs) → without n xs ≡ c.front ++ c.rest
  without_first n y xs rising c = ap (without n) c.is ∙ numbers.without_cut n y c.front c.rest (below_middle c.front (n, y) c.rest (subst IsRising c.is rising))

  pub renumbered_is : (ys : List E) (xs zs : List (ℕ × E)) → IsRising xs → renumbered same xs ys ≡ Some zs → IsMatched xs zs × (bare zs ≡ ys)
  renumbered_is [] [] zs rising h =
      let is : [] ≡ zs = cc in
      subst (λ ws. IsMatched [] ws × (bare ws ≡ [])) is (record { same = λ x. (λ k. k, λ k. k); once = tt; in_turn = λ a b e st. absurd st }, refl)
  renumbered_is [] (x ∷ xs) zs rising h = cc
  renumbered_is (y ∷ ys) xs zs rising h = elim (none_or (first_of same y xs)) [
    | inl none ↦
        let w : None ≡ Some zs = sym (ap (λ o. where_found o (λ n. option_map (λ us. (n, y) ∷ us) (renumbered same (without n xs) ys))) none) ∙ h in
        cc
    | inr found ↦
        let n : ℕ = found.0 in
        let at : option_map (λ us. (n, y) ∷ us) (renumbered same (without n xs) ys) ≡ Some zs = sym (ap (λ o. where_found o (λ k. option_map (λ us. (k, y) ∷ us) (renumbered same (without k xs) ys))) found.1) ∙ h in
        elim (none_or (renumbered same (without n xs) ys)) [
          | inl none ↦ let w : None ≡ Some zs = sym (ap (option_map (λ us. (n, y) ∷ us)) none) ∙ at in cc
          | inr more ↦
              let w : Some ((n, y) ∷ more.0) ≡ Some zs = sym (ap (option_map (λ us. (n, y) ∷ us)) more.1) ∙ at in
              let is : (n, y) ∷ more.0 ≡ zs = cc in
              let c : FirstAt y n xs = first_at y n xs found.1 in
              let r : IsMatched (without n xs) more.0 × (bare more.0 ≡ ys) = renumbered_is ys (without n xs) more.0 (by_number.without_rises n xs rising) more.1 in
              let m : IsMatched (c.front ++ c.rest) more.0 = subst (λ us. IsMatched us more.0) (without_first n y xs rising c) r.0 in (
                subst (λ us. IsMatched xs us) is (subst (λ us. IsMatched us ((n, y) ∷ more.0)) (sym c.is) (matched_more n y c.front c.rest more.0 (subst IsRising c.is rising) c.none m)),
                ap bare (sym is) ∙ ap (λ us. y ∷ us) r.1,
              )
        ]
  ]

  -- how often an event stands
  swap_sum : (a b c : ℕ) → a + (b + c) ≡ b + (a + c)
  swap_sum a b c = omega arith

  cancel : (a b c : ℕ) → a + b ≡ a + c → b ≡ c
  cancel a b c h = omega arith

  none_of_some : (a : ℕ) → 1 + a ≡ 0 → ⊥
  none_of_some a h = omega arith

  count_insert : (p : E → Bool) (front : List (ℕ × E)) (z : ℕ × E) (rest : List (ℕ × E)) → count_by p (bare (front ++ z ∷ rest)) ≡ cond (p z.1) 1 0 + count_by p (bare (front ++ rest))
  count_insert p [] z rest = sum_by-cons (λ e. cond (p e) 1 0) z.1 (bare rest)
  count_insert p (x ∷ front) z rest =
      sum_by-cons (λ e. cond (p e) 1 0) x.1 (bare (front ++ z ∷ rest)) ∙ ap (λ k. cond (p x.1) 1 0 + k) (count_insert p front z rest)
      ∙ swap_sum (cond (p x.1) 1 0) (cond (p z.1) 1 0) (count_by p (bare (front ++ rest))) ∙ ap (λ k. cond (p z.1) 1 0 + k) (sym (sum_by-cons (λ e. cond (p e) 1 0) x.1 (bare (front ++ rest))))

  -- one more where it passes
  count_one : (p : E → Bool) (y : E) (ys : List E) → p y ≡ true → count_by p (y ∷ ys) ≡ 1 + count_by p ys
  count_one p y ys h = sum_by-cons (λ e. cond (p e) 1 0) y ys ∙ ap (λ b. cond b 1 0 + count_by p ys) h

  pub matched_counts : (xs zs : List (ℕ × E)) → Distinct xs → IsMatched xs zs → SameEvents same (bare xs) (bare zs)
  matched_counts [] [] d m e = refl
  matched_counts (x ∷ xs) [] d m e = absurd ((m.same x).0 (inl refl))
  matched_counts xs (z ∷ zs) d m e =
      let c : Order.Cut z xs = Order.cut_at z xs ((m.same z).1 (inl refl)) in
      let cut_d : Distinct (c.front ++ z ∷ c.rest) = subst Distinct c.is d in
      let further : IsMatched (c.front ++ c.rest) zs = matched_rest z zs c.front c.rest cut_d (subst (λ ys. IsMatched ys (z ∷ zs)) c.is m) in
      ap (λ us. count_by (same e) (bare us)) c.is ∙ count_insert (same e) c.front z c.rest
      ∙ ap (λ k. cond (same e z.1) 1 0 + k) (matched_counts (c.front ++ c.rest) zs (Order.distinct_insert z c.front c.rest cut_d).0 further e)
      ∙ sym (sum_by-cons (λ x. cond (same e x) 1 0) z.1 (bare zs))

  first_none : (y : E) (xs : List (ℕ × E)) → first_of same y xs ≡ None → count_by (same y) (bare xs) ≡ 0
  first_none y [] h = refl
  first_none y (x ∷ xs) h = elim (either (same y x.1)) [
    | inl t ↦ let w : Some x.0 ≡ None = sym (ap (λ b. cond b (Some x.0) (first_of same y xs)) t) ∙ h in cc
    | inr f ↦ sum_by-cons (λ e. cond (same y e) 1 0) x.1 (bare xs) ∙ ap (λ b. cond b 1 0 + count_by (same y) (bare xs)) f ∙ zero_more (count_by (same y) (bare xs)) ∙ first_none y xs (sym (ap (λ b. cond b (Some x.0) (first_of same y xs)) f) ∙ h)
  ]
    where
      zero_more : (k : ℕ) → 0 + k ≡ k
      zero_more k = omega arith

  pub renumbered_some : (ys : List E) (xs : List (ℕ × E)) → IsRising xs → SameEvents same (bare xs) ys → (zs : List (ℕ × E)) × (renumbered same xs ys ≡ Some zs)
  renumbered_some [] [] rising h = ([], refl)
  renumbered_some [] (x ∷ xs) rising h =
      absurd (none_of_some (count_by (same x.1) (bare xs)) (sym (count_one (same x.1) x.1 (bare xs) (q.itself x.1)) ∙ h x.1))
  renumbered_some (y ∷ ys) xs rising h = elim (none_or (first_of same y xs)) [
    | inl none ↦ absurd (none_of_some (count_by (same y) ys) (sym (count_one (same y) y ys (q.itself y)) ∙ sym (h y) ∙ first_none y xs none))
    | inr found ↦
        let n : ℕ = found.0 in
        let c : FirstAt y n xs = first_at y n xs found.1 in
        let further : SameEvents same (bare (without n xs)) ys = λ e. ap (λ us. count_by (same e) (bare us)) (without_first n y xs rising c)
        ∙ cancel (cond (same e y) 1 0) (count_by (same e) (bare (c.front ++ c.rest))) (count_by (same e) ys) (sym (count_insert (same e) c.front (n, y) c.rest) ∙ ap (λ us. count_by (same e) (bare us)) (sym c.is) ∙ h e ∙ sum_by-cons (λ x. cond (same e x) 1 0) y ys) in
        let r : (zs : List (ℕ × E)) × (renumbered same (without n xs) ys ≡ Some zs) = renumbered_some ys (without n xs) (by_number.without_rises n xs rising) further in (
          (n, y) ∷ r.0,
          ap (λ o. where_found o (λ k. option_map (λ us. (k, y) ∷ us) (renumbered same (without k xs) ys))) found.1 ∙ ap (option_map (λ us. (n, y) ∷ us)) r.1,
        )
  ]

  pub no_matching_where_events_differ : NoMatchingWhereEventsDiffer same
  no_matching_where_events_differ first ys rising = (
    λ none all.
        let r : (zs : List (ℕ × E)) × (renumbered same first ys ≡ Some zs) = renumbered_some ys first rising all in
        let w : None ≡ Some r.0 = sym none ∙ r.1 in
        absurd (cc),
    λ differ. elim (none_or (renumbered same first ys)) [
      | inl none ↦ none
      | inr found ↦
          let m : IsMatched first found.0 × (bare found.0 ≡ ys) = renumbered_is ys first found.0 rising found.1 in
          absurd (differ (subst (SameEvents same (bare first)) m.1 (matched_counts first found.0 (rising_each first rising) m.0)))
    ],
  )

  pub matching_is_exact : MatchingIsExact same
  matching_is_exact first ys other rising = (
    renumbered_is ys first other rising,
    λ m.
        let r : (zs : List (ℕ × E)) × (renumbered same first ys ≡ Some zs) = renumbered_some ys first rising (subst (SameEvents same (bare first)) m.1 (matched_counts first other (rising_each first rising) m.0)) in
        let is : IsMatched first r.0 × (bare r.0 ≡ ys) = renumbered_is ys first r.0 rising r.1 in
        r.1 ∙ ap Some (matched_once first r.0 other (rising_each first rising) is.0 m.0 (is.1 ∙ sym m.1)),
  )

-- equal events that always write one cell, or are whole, conflict
module _ {K : Type 0} {R : K → K → Ordering} (o : IsTotalOrder R) (exact : IsAntisymmetric R) {V E F : Type 0} (t : Table K V E F R) where
  pub equal_writers_conflict : EqualWritersConflict t
  equal_writers_conflict s u e h = (store.conflict_is_exact o exact (t.footprint s e) (t.footprint u e)).1 (elim h [
    | inl p ↦ inl p
    | inr (inl p) ↦ inr (inl p)
    | inr (inr p) ↦ inr (inr (inl (p.0, p.1, store.written_accessed o exact (t.footprint u e) p.0 p.2)))
  ])

  pub equal_events_conflict_of : ((e : E) → AlwaysWrites t e) → EqualEventsConflict (machine_of t)
  equal_events_conflict_of always s u e p q = equal_writers_conflict s u e (elim (always e) [
    | inl w ↦ inl (w s p)
    | inr w ↦ inr (inr (w.0, w.1 s p, w.1 u q))
  ])
