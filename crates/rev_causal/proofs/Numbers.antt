-- Undo and redo by number.
use Rattle.std.proofs.Common.{◌≡◌, ℕ, ◌<◌, ◌≤◌, ◌≢◌, false, cond, List, [], ◌∷◌, ◌++◌, sym, refl, ap, ap₂, subst, ◌∙◌, inl, inr, true≢false, eqb-true, eq-eqb, ne_eqb, ltb-true, ltb-false, lt-ltb, le-ltb, arith}
use Rattle.std.specs.List.{AllByRecursion}
use Rattle.std.specs.declared.option.Option.{Option}
use Rattle.std.specs.declared.option.Option.TheVariants.{None, Some}
use Rattle.std.specs.Prelude.{nat_eq, nat_lt}
use Rattle.rev_causal.specs.Machine.{Machine, IsLocal, Accepts, Legal, run, footprints, NoneConflicts, Removed, Placed}
use Rattle.rev_causal.specs.Order.{nearest}
use Rattle.rev_causal.specs.Entries.{Entry, entries, clash}
use Rattle.rev_causal.specs.History.{IsRising, event_at, without, put, number_of, nearest_to, nearest_above, Undone, Redone}
use Rattle.rev_causal.proofs.Runs
use Rattle.rev_causal.proofs.Runs.{either}

differs : (a n : ℕ) → a < n → nat_eq a n ≡ false
differs a n h = ne_eqb a n (λ e. omega arith)

module _ {E : Type 0} where
  pub record CutAt (n : ℕ) (e : E) (xs : List (ℕ × E)) : Type 0 where
    pub before : List (ℕ × E)
    pub later : List (ℕ × E)
    pub is : xs ≡ before ++ (n, e) ∷ later
    pub below : AllByRecursion (λ (x : ℕ × E). x.0 < n) before
    pub above : AllByRecursion (λ (x : ℕ × E). n < x.0) later

  pub all_middle : (P : ℕ × E → Type 0) (before later : List (ℕ × E)) (x : ℕ × E) → AllByRecursion P (before ++ x ∷ later) → P x
  all_middle P [] later x h = h.0
  all_middle P (y ∷ before) later x h = all_middle P before later x h.1

  pub cut : (n : ℕ) (e : E) (xs : List (ℕ × E)) → IsRising xs → event_at n xs ≡ Some e → CutAt n e xs
  cut n e [] rising h = cc
  cut n e (x ∷ xs) rising h = elim (either (nat_eq x.0 n)) [
    | inl t ↦
        let num : x.0 ≡ n = eqb-true x.0 n t in
        let found : Some x.1 ≡ Some e = subst (λ b. cond b (Some x.1) (event_at n xs) ≡ Some e) t h in
        let ev : x.1 ≡ e = cc in
        record { before = []; later = xs; is = λ i. (num i, ev i) ∷ xs; below = tt; above = subst (λ k. AllByRecursion (λ (y : ℕ × E). k < y.0) xs) num rising.0 }
    | inr f ↦
        let c : CutAt n e xs = cut n e xs rising.1 (subst (λ b. cond b (Some x.1) (event_at n xs) ≡ Some e) f h) in
        record {
          before = x ∷ c.before;
          later = c.later;
          is = ap (λ ys. x ∷ ys) c.is;
          below = (all_middle (λ (y : ℕ × E). x.0 < y.0) c.before c.later (n, e) (subst (AllByRecursion (λ (y : ℕ × E). x.0 < y.0)) c.is rising.0), c.below);
          above = c.above;
        }
  ]

  pub without_cut : (n : ℕ) (e : E) (before later : List (ℕ × E)) → AllByRecursion (λ (x : ℕ × E). x.0 < n) before → without n (before ++ (n, e) ∷ later) ≡ before ++ later
  without_cut n e [] later h = ap (λ b. cond b later ((n, e) ∷ without n later)) (eq-eqb n n refl)
  without_cut n e (x ∷ before) later h =
      ap (λ b. cond b (before ++ (n, e) ∷ later) (x ∷ without n (before ++ (n, e) ∷ later))) (differs x.0 n h.0) ∙ ap (λ ys. x ∷ ys) (without_cut n e before later h.1)

  pub put_cut : (n : ℕ) (e : E) (before later : List (ℕ × E)) → AllByRecursion (λ (x : ℕ × E). x.0 < n) before → AllByRecursion (λ (x : ℕ × E). n < x.0) later → put n e (before ++ later) ≡ before ++ (n, e) ∷ later
  put_cut n e [] [] h k = refl
  put_cut n e [] (y ∷ later) h k = ap (λ b. cond b ((n, e) ∷ y ∷ later) (y ∷ put n e later)) (lt-ltb n y.0 k.0)
  put_cut n e (x ∷ before) later h k =
      ap (λ b. cond b ((n, e) ∷ x ∷ before ++ later) (x ∷ put n e (before ++ later))) (le-ltb n x.0 (omega (arith, h.0))) ∙ ap (λ ys. x ∷ ys) (put_cut n e before later h.1 k)

module _ (m : Machine) where
  pub nearest_to_cut : (s : m.State) (n : ℕ) (e : m.Event) (before later : List (ℕ × m.Event)) → AllByRecursion (λ (x : ℕ × m.Event). x.0 < n) before →
      nearest_to m n (entries m s (before ++ (n, e) ∷ later)) ≡ number_of m (nearest (clash m) (record { number = n; event = e; footprint = m.footprint (run m s before) e }) (entries m (m.after (run m s before) e) later))
  nearest_to_cut s n e [] later h = ap (λ b. cond b (number_of m (nearest (clash m) (record { number = n; event = e; footprint = m.footprint s e }) (entries m (m.after s e) later))) (nearest_to m n (entries m (m.after s e) later))) (eq-eqb n n refl)
  nearest_to_cut s n e (x ∷ before) later h =
      let zs : List (Entry m) = entries m (m.after s x.1) (before ++ (n, e) ∷ later) in
      ap (λ b. cond b (number_of m (nearest (clash m) (record { number = x.0; event = x.1; footprint = m.footprint s x.1 }) zs)) (nearest_to m n zs)) (differs x.0 n h.0)
      ∙ nearest_to_cut (m.after s x.1) n e before later h.1

  -- nothing conflicts, as a test and as a fact
  pub none_conflicts : (z : Entry m) (s : m.State) (es : List (ℕ × m.Event)) → number_of m (nearest (clash m) z (entries m s es)) ≡ None → NoneConflicts m z.footprint (footprints m s es)
  none_conflicts z s [] h = tt
  none_conflicts z s (e ∷ es) h = elim (either (m.conflict z.footprint (m.footprint s e.1))) [
    | inl c ↦
        let w : Some e.0 ≡ None = subst (λ b. number_of m (cond b (Some (record { number = e.0; event = e.1; footprint = m.footprint s e.1 })) (nearest (clash m) z (entries m (m.after s e.1) es))) ≡ None) c h in
        cc
    | inr c ↦ (c, none_conflicts z (m.after s e.1) es (subst (λ b. number_of m (cond b (Some (record { number = e.0; event = e.1; footprint = m.footprint s e.1 })) (nearest (clash m) z (entries m (m.after s e.1) es))) ≡ None) c h))
  ]

  none_above : (n : ℕ) (f : m.Footprint) (s : m.State) (later : List (ℕ × m.Event)) → NoneConflicts m f (footprints m s later) → nearest_above m n f (entries m s later) ≡ None
  none_above n f s [] h = refl
  none_above n f s (x ∷ later) h = elim (either (nat_lt n x.0)) [
    | inl t ↦ ap (λ b. cond b (cond (m.conflict f (m.footprint s x.1)) (Some x.0) (nearest_above m n f (entries m (m.after s x.1) later))) (nearest_above m n f (entries m (m.after s x.1) later))) t
        ∙ ap (λ b. cond b (Some x.0) (nearest_above m n f (entries m (m.after s x.1) later))) h.0 ∙ none_above n f (m.after s x.1) later h.1
    | inr t ↦ ap (λ b. cond b (cond (m.conflict f (m.footprint s x.1)) (Some x.0) (nearest_above m n f (entries m (m.after s x.1) later))) (nearest_above m n f (entries m (m.after s x.1) later))) t
        ∙ none_above n f (m.after s x.1) later h.1
  ]

  pub nearest_above_cut : (n : ℕ) (f : m.Footprint) (s : m.State) (before later : List (ℕ × m.Event)) → AllByRecursion (λ (x : ℕ × m.Event). x.0 < n) before → nearest_above m n f (entries m s (before ++ later)) ≡ nearest_above m n f (entries m (run m s before) later)
  nearest_above_cut n f s [] later h = refl
  nearest_above_cut n f s (x ∷ before) later h =
      let zs : List (Entry m) = entries m (m.after s x.1) (before ++ later) in
      ap (λ b. cond b (cond (m.conflict f (m.footprint s x.1)) (Some x.0) (nearest_above m n f zs)) (nearest_above m n f zs)) (le-ltb n x.0 (omega (arith, h.0)))
      ∙ nearest_above_cut n f (m.after s x.1) before later h.1

  pub all_above : (n : ℕ) (f : m.Footprint) (s : m.State) (later : List (ℕ × m.Event)) → AllByRecursion (λ (x : ℕ × m.Event). n < x.0) later → nearest_above m n f (entries m s later) ≡ None → NoneConflicts m f (footprints m s later)
  all_above n f s [] k h = tt
  all_above n f s (x ∷ later) k h =
      let rest : Option ℕ = nearest_above m n f (entries m (m.after s x.1) later) in
      let g : cond (m.conflict f (m.footprint s x.1)) (Some x.0) rest ≡ None = subst (λ b. cond b (cond (m.conflict f (m.footprint s x.1)) (Some x.0) rest) rest ≡ None) (lt-ltb n x.0 k.0) h in
      elim (either (m.conflict f (m.footprint s x.1))) [
        | inl c ↦ let w : Some x.0 ≡ None = subst (λ b. cond b (Some x.0) rest ≡ None) c g in cc
        | inr c ↦ (c, all_above n f (m.after s x.1) later k.1 (subst (λ b. cond b (Some x.0) rest ≡ None) c g))
      ]

module _ (m : Machine) (l : IsLocal m) where
  -- undo over the cut list
  undone_cut : (s : m.State) (n : ℕ) (e : m.Event) (before later : List (ℕ × m.Event)) → AllByRecursion (λ (x : ℕ × m.Event). x.0 < n) before → AllByRecursion (λ (x : ℕ × m.Event). n < x.0) later →
      Legal m s (before ++ (n, e) ∷ later) → nearest_to m n (entries m s (before ++ (n, e) ∷ later)) ≡ None → Undone m s (before ++ (n, e) ∷ later) n e
  undone_cut s n e before later below above legal none =
      let u : m.State = run m s before in
      let z : Entry m = record { number = n; event = e; footprint = m.footprint u e } in
      let back : Legal m u ((n, e) ∷ later) = Runs.legal_back m s before ((n, e) ∷ later) legal in
      let free : NoneConflicts m (m.footprint u e) (footprints m (m.after u e) later) = none_conflicts m z (m.after u e) later (sym (nearest_to_cut m s n e before later below) ∙ none) in
      let r : Removed m u e later = Runs.removal m l u e later back.0 back.1 free in
      let still : NoneConflicts m (m.footprint u e) (footprints m u later) = subst (NoneConflicts m (m.footprint u e)) (sym r.same_footprints) free in
      let last = Runs.accepted_last m l u e later back.0 r.legal still in
      let gone : without n (before ++ (n, e) ∷ later) ≡ before ++ later = without_cut n e before later below in
      let now : run m s (before ++ later) ≡ run m u later = Runs.run-append m s before later in
      let was : run m s (before ++ (n, e) ∷ later) ≡ run m (m.after u e) later = Runs.run-append m s before ((n, e) ∷ later) in
      let here : run m s (without n (before ++ (n, e) ∷ later)) ≡ run m u later = ap (run m s) gone ∙ now in
      record {
        before = u;
        legal = subst (Legal m s) (sym gone) (Runs.legal_join m s before later (Runs.legal_front m s before ((n, e) ∷ later) legal) r.legal);
        accepted = back.0;
        put_back = λ k w. ap (λ t. m.look t k) here ∙ r.put_back k w;
        others = λ k w. ap (λ t. m.look t k) here ∙ r.others k w ∙ sym (ap (λ t. m.look t k) was);
        again = subst (λ t. Accepts m t e) (sym here) last.0;
        same_footprint = ap (λ t. m.footprint t e) here ∙ last.1;
        nothing_in_the_way =
            ap₂ (λ f ys. nearest_above m n f (entries m s ys)) (ap (λ t. m.footprint t e) here ∙ last.1) gone
            ∙ nearest_above_cut m n (m.footprint u e) s before later below
            ∙ none_above m n (m.footprint u e) u later still;
        restored = ap (put n e) gone ∙ put_cut n e before later below above;
      }

  -- undo of a kept event that nothing kept depends on
  pub undone : (s : m.State) (n : ℕ) (e : m.Event) (kept : List (ℕ × m.Event)) → IsRising kept → event_at n kept ≡ Some e → Legal m s kept → nearest_to m n (entries m s kept) ≡ None → Undone m s kept n e
  undone s n e kept rising found legal none =
      let c : CutAt n e kept = cut n e kept rising found in
      subst (λ ys. Undone m s ys n e) (sym c.is) (undone_cut s n e c.before c.later c.below c.above
      (subst (Legal m s) c.is legal) (subst (λ ys. nearest_to m n (entries m s ys) ≡ None) c.is none))

  -- redo over the list cut at the number's place
  pub redone_cut : (s : m.State) (n : ℕ) (e : m.Event) (before later : List (ℕ × m.Event)) → AllByRecursion (λ (x : ℕ × m.Event). x.0 < n) before → AllByRecursion (λ (x : ℕ × m.Event). n < x.0) later →
      Legal m s (before ++ later) → Accepts m (run m s (before ++ later)) e → nearest_above m n (m.footprint (run m s (before ++ later)) e) (entries m s (before ++ later)) ≡ None → Redone m s (before ++ later) n e
  redone_cut s n e before later below above legal acc none =
      let u : m.State = run m s before in
      let now : run m s (before ++ later) ≡ run m u later = Runs.run-append m s before later in
      let f : m.Footprint = m.footprint (run m s (before ++ later)) e in
      let same : f ≡ m.footprint (run m u later) e = ap (λ t. m.footprint t e) now in
      let free : NoneConflicts m f (footprints m u later) = all_above m n f u later above (sym (nearest_above_cut m n f s before later below) ∙ none) in
      let p : Placed m u e later = Runs.place m l u e later (Runs.legal_back m s before later legal) (subst (λ t. Accepts m t e) now acc) (subst (λ g. NoneConflicts m g (footprints m u later)) same free) in
      let is : put n e (before ++ later) ≡ before ++ (n, e) ∷ later = put_cut n e before later below above in
      record {
        legal = subst (Legal m s) (sym is) (Runs.legal_join m s before ((n, e) ∷ later) (Runs.legal_front m s before later legal) (p.accepted, p.legal));
        result = ap (run m s) is ∙ Runs.run-append m s before ((n, e) ∷ later) ∙ p.result ∙ ap (λ t. m.after t e) (sym now);
      }

-- where a number that is not there belongs
pub record Gap {E : Type 0} (n : ℕ) (xs : List (ℕ × E)) : Type 0 where
  pub before : List (ℕ × E)
  pub later : List (ℕ × E)
  pub is : xs ≡ before ++ later
  pub below : AllByRecursion (λ (x : ℕ × E). x.0 < n) before
  pub above : AllByRecursion (λ (x : ℕ × E). n < x.0) later

module _ {E : Type 0} where
  pub all_further : (n k : ℕ) (xs : List (ℕ × E)) → n < k → AllByRecursion (λ (x : ℕ × E). k < x.0) xs → AllByRecursion (λ (x : ℕ × E). n < x.0) xs
  all_further n k [] h all = tt
  all_further n k (x ∷ xs) h all = (omega (arith, all.0), all_further n k xs h all.1)

  pub gap : (n : ℕ) (xs : List (ℕ × E)) → IsRising xs → event_at n xs ≡ None → Gap n xs
  gap n [] rising h = record { before = []; later = []; is = refl; below = tt; above = tt }
  gap n (x ∷ xs) rising h = elim (either (nat_eq x.0 n)) [
    | inl t ↦ let w : Some x.1 ≡ None = subst (λ b. cond b (Some x.1) (event_at n xs) ≡ None) t h in cc
    | inr f ↦ elim (either (nat_lt n x.0)) [
      | inl t ↦
          let lt : n < x.0 = ltb-true n x.0 t in
          record { before = []; later = x ∷ xs; is = refl; below = tt; above = (lt, all_further n x.0 xs lt rising.0) }
      | inr g ↦
          let c : Gap n xs = gap n xs rising.1 (subst (λ b. cond b (Some x.1) (event_at n xs) ≡ None) f h) in
          let ne : x.0 ≢ n = λ p. absurd (true≢false (sym (eq-eqb x.0 n p) ∙ f)) in
          let le : x.0 ≤ n = ltb-false n x.0 g in
          record { before = x ∷ c.before; later = c.later; is = ap (λ ys. x ∷ ys) c.is; below = (omega arith, c.below); above = c.above }
    ]
  ]

module _ (m : Machine) (l : IsLocal m) where
  -- redo of an event that is not kept, is accepted now, and has nothing in its way
  pub redone : (s : m.State) (n : ℕ) (e : m.Event) (kept : List (ℕ × m.Event)) → IsRising kept → event_at n kept ≡ None → Legal m s kept → Accepts m (run m s kept) e → nearest_above m n (m.footprint (run m s kept) e) (entries m s kept) ≡ None → Redone m s kept n e
  redone s n e kept rising missing legal acc none =
      let c : Gap n kept = gap n kept rising missing in
      subst (λ ys. Redone m s ys n e) (sym c.is) (redone_cut m l s n e c.before c.later c.below c.above
      (subst (Legal m s) c.is legal) (subst (λ ys. Accepts m (run m s ys) e) c.is acc)
      (subst (λ ys. nearest_above m n (m.footprint (run m s ys) e) (entries m s ys) ≡ None) c.is none))
