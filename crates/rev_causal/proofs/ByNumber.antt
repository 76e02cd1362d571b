-- Undo, redo, back, what stands in their way, and the cone, by number.
use Rattle.std.proofs.Common.{◌≡◌, ℕ, ◌<◌, ◌≤◌, ◌≢◌, Bool, true, false, cond, List, [], ◌∷◌, ◌++◌, append-nil, map, sym, refl, ap, ap₂, subst, ◌∙◌, inl, inr, true≢false, ◌↔◌, eqb-true, eq-eqb, ne_eqb, ltb-true, ltb-false, lt-ltb, arith}
use Rattle.std.specs.List.{AllByRecursion}
use Rattle.std.specs.declared.option.Option.TheVariants.{None, Some}
use Rattle.std.specs.Prelude.{nat_eq, nat_lt}
use Rattle.rev_causal.specs.Machine.{Machine, IsLocal, Accepts, Legal, run, footprints, NoneConflicts, Removed, Placed}
use Rattle.rev_causal.specs.Order.{Free, Has, Stands, Distinct, InCone, InCone.itself, InCone.depends, any_conflict, cone, outside, nearest}
use Rattle.rev_causal.specs.Entries.{Entry, entries, events, IsRun, clash}
use Rattle.rev_causal.specs.History.{IsRising, event_at, without, put, numbered_by, footprints_by_number, number_of, nearest_to, nearest_above, Undone, Redone, cone_of, rest_of}
use Rattle.rev_causal.specs.Laws.{NeighboursExchange, Removal, Place, UndoOfFree, RedoAtItsPlace, RedoNextRestores, UndoRises, RedoRises, GreatestIsFree, UndoKeepsFootprints, RedoKeepsFootprints, NearestIsNone, FirstAboveIsLeast, FirstAboveIsNone, ConeIsLeast, ConeIsWithin, BothFormsAgree, SameRefusals, SameEntries}
use Rattle.rev_causal.proofs.Runs
use Rattle.rev_causal.proofs.Runs.{either}
use Rattle.rev_causal.proofs.Order
use Rattle.rev_causal.proofs.Cones
use Rattle.rev_causal.proofs.Entries
use Rattle.rev_causal.proofs.Numbers as numbers
use Rattle.rev_causal.proofs.Laws as laws

-- lists in rising number
module _ {E : Type 0} where
  pub above_missing : (n : ℕ) (xs : List (ℕ × E)) → AllByRecursion (λ (x : ℕ × E). n < x.0) xs → event_at n xs ≡ None
  above_missing n [] h = refl
  above_missing n (x ∷ xs) h = ap (λ b. cond b (Some x.1) (event_at n xs)) (ne_eqb x.0 n (λ e. let lt : n < x.0 = h.0 in omega arith)) ∙ above_missing n xs h.1

  pub without_all : (P : ℕ × E → Type 0) (n : ℕ) (xs : List (ℕ × E)) → AllByRecursion P xs → AllByRecursion P (without n xs)
  without_all P n [] h = tt
  without_all P n (x ∷ xs) h = elim (either (nat_eq x.0 n)) [
    | inl t ↦ subst (AllByRecursion P) (sym (ap (λ b. cond b xs (x ∷ without n xs)) t)) h.1
    | inr f ↦ subst (AllByRecursion P) (sym (ap (λ b. cond b xs (x ∷ without n xs)) f)) (h.0, without_all P n xs h.1)
  ]

  pub without_rises : (n : ℕ) (xs : List (ℕ × E)) → IsRising xs → IsRising (without n xs)
  without_rises n [] h = tt
  without_rises n (x ∷ xs) h = elim (either (nat_eq x.0 n)) [
    | inl t ↦ subst IsRising (sym (ap (λ b. cond b xs (x ∷ without n xs)) t)) h.1
    | inr f ↦ subst IsRising (sym (ap (λ b. cond b xs (x ∷ without n xs)) f)) (without_all (λ (y : ℕ × E). x.0 < y.0) n xs h.0, without_rises n xs h.1)
  ]

  pub without_missing : (n : ℕ) (xs : List (ℕ × E)) → IsRising xs → event_at n (without n xs) ≡ None
  without_missing n [] h = refl
  without_missing n (x ∷ xs) h = elim (either (nat_eq x.0 n)) [
    | inl t ↦ ap (λ b. event_at n (cond b xs (x ∷ without n xs))) t ∙ above_missing n xs (subst (λ k. AllByRecursion (λ (y : ℕ × E). k < y.0) xs) (eqb-true x.0 n t) h.0)
    | inr f ↦ ap (λ b. event_at n (cond b xs (x ∷ without n xs))) f ∙ ap (λ b. cond b (Some x.1) (event_at n (without n xs))) f ∙ without_missing n xs h.1
  ]

  put_all : (P : ℕ × E → Type 0) (n : ℕ) (e : E) (xs : List (ℕ × E)) → P (n, e) → AllByRecursion P xs → AllByRecursion P (put n e xs)
  put_all P n e [] p h = (p, tt)
  put_all P n e (x ∷ xs) p h = elim (either (nat_lt n x.0)) [
    | inl t ↦ subst (AllByRecursion P) (sym (ap (λ b. cond b ((n, e) ∷ x ∷ xs) (x ∷ put n e xs)) t)) (p, h)
    | inr f ↦ subst (AllByRecursion P) (sym (ap (λ b. cond b ((n, e) ∷ x ∷ xs) (x ∷ put n e xs)) f)) (h.0, put_all P n e xs p h.1)
  ]

  pub put_rises : (n : ℕ) (e : E) (xs : List (ℕ × E)) → IsRising xs → event_at n xs ≡ None → IsRising (put n e xs)
  put_rises n e [] h missing = (tt, tt)
  put_rises n e (x ∷ xs) h missing = elim (either (nat_lt n x.0)) [
    | inl t ↦
        let lt : n < x.0 = ltb-true n x.0 t in
        subst IsRising (sym (ap (λ b. cond b ((n, e) ∷ x ∷ xs) (x ∷ put n e xs)) t)) ((lt, numbers.all_further n x.0 xs lt h.0), h)
    | inr f ↦
        let le : x.0 ≤ n = ltb-false n x.0 f in
        elim (either (nat_eq x.0 n)) [
          | inl t ↦ let w : Some x.1 ≡ None = subst (λ b. cond b (Some x.1) (event_at n xs) ≡ None) t missing in cc
          | inr g ↦
              let ne : x.0 ≢ n = λ p. absurd (true≢false (sym (eq-eqb x.0 n p) ∙ g)) in
              subst IsRising (sym (ap (λ b. cond b ((n, e) ∷ x ∷ xs) (x ∷ put n e xs)) f))
              (put_all (λ (y : ℕ × E). x.0 < y.0) n e xs (omega arith) h.0, put_rises n e xs h.1 (subst (λ b. cond b (Some x.1) (event_at n xs) ≡ None) g missing))
        ]
  ]

  pub event_at_cut : (n : ℕ) (e : E) (before later : List (ℕ × E)) → AllByRecursion (λ (x : ℕ × E). x.0 < n) before → event_at n (before ++ (n, e) ∷ later) ≡ Some e
  event_at_cut n e [] later h = ap (λ b. cond b (Some e) (event_at n later)) (eq-eqb n n refl)
  event_at_cut n e (x ∷ before) later h =
      ap (λ b. cond b (Some x.1) (event_at n (before ++ (n, e) ∷ later))) (ne_eqb x.0 n (λ p. let lt : x.0 < n = h.0 in omega arith)) ∙ event_at_cut n e before later h.1

  pub below_last : (xs : List (ℕ × E)) (x : ℕ × E) → IsRising (xs ++ x ∷ []) → AllByRecursion (λ (y : ℕ × E). y.0 < x.0) xs
  below_last [] x h = tt
  below_last (y ∷ xs) x h = (numbers.all_middle (λ (z : ℕ × E). y.0 < z.0) xs [] x h.0, below_last xs x h.1)

  -- what belongs to the events has their numbers
  pub numbered_all : {A : Type 0} (P : ℕ → Type 0) (es : List (ℕ × E)) (xs : List A) → AllByRecursion (λ (y : ℕ × E). P y.0) es → AllByRecursion (λ (y : ℕ × A). P y.0) (numbered_by es xs)
  numbered_all P [] xs h = tt
  numbered_all P (e ∷ es) [] h = tt
  numbered_all P (e ∷ es) (x ∷ xs) h = (h.0, numbered_all P es xs h.1)

-- undo, redo and back
module _ (m : Machine) (l : IsLocal m) where
  pub neighbours_exchange : NeighboursExchange m
  neighbours_exchange = Runs.exchange m l

  pub removal : Removal m
  removal = Runs.removal m l

  pub place : Place m
  place = Runs.place m l

  pub undo_of_free : UndoOfFree m
  undo_of_free s n e kept rising legal found none = numbers.undone m l s n e kept rising found legal none

  pub redo_at_its_place : RedoAtItsPlace m
  redo_at_its_place s n e kept rising legal missing acc none = numbers.redone m l s n e kept rising missing legal acc none

  pub redo_next_restores : RedoNextRestores m
  redo_next_restores s n e kept rising legal found none =
      let u : Undone m s kept n e = numbers.undone m l s n e kept rising found legal none in
      let missing : event_at n (without n kept) ≡ None = without_missing n kept rising in
      let r : Redone m s (without n kept) n e = numbers.redone m l s n e (without n kept) (without_rises n kept rising) missing u.legal u.again u.nothing_in_the_way in
      record {
        missing = missing;
        accepted = u.again;
        nothing_in_the_way = u.nothing_in_the_way;
        same_list = u.restored;
        same_state = sym r.result ∙ ap (run m s) u.restored;
      }

  -- what taking out an event says at its place
  pub removed_at : (s : m.State) (n : ℕ) (e : m.Event) (before later : List (ℕ × m.Event)) → AllByRecursion (λ (x : ℕ × m.Event). x.0 < n) before → nearest_to m n (entries m s (before ++ (n, e) ∷ later)) ≡ None →
      NoneConflicts m (m.footprint (run m s before) e) (footprints m (m.after (run m s before) e) later)
  removed_at s n e before later below none =
      let u : m.State = run m s before in
      numbers.none_conflicts m (record { number = n; event = e; footprint = m.footprint u e }) (m.after u e) later (sym (numbers.nearest_to_cut m s n e before later below) ∙ none)

  -- and putting one in
  pub placed_at : (s : m.State) (n : ℕ) (e : m.Event) (before later : List (ℕ × m.Event)) → AllByRecursion (λ (x : ℕ × m.Event). x.0 < n) before → AllByRecursion (λ (x : ℕ × m.Event). n < x.0) later →
      nearest_above m n (m.footprint (run m s (before ++ later)) e) (entries m s (before ++ later)) ≡ None →
      NoneConflicts m (m.footprint (run m (run m s before) later) e) (footprints m (run m s before) later)
  placed_at s n e before later below above none =
      let u : m.State = run m s before in
      let f : m.Footprint = m.footprint (run m s (before ++ later)) e in
      subst (λ g. NoneConflicts m g (footprints m u later)) (ap (λ t. m.footprint t e) (Runs.run-append m s before later))
      (numbers.all_above m n f u later above (sym (numbers.nearest_above_cut m n f s before later below) ∙ none))

  footprints_by_number-append : (s : m.State) (xs ys : List (ℕ × m.Event)) → footprints_by_number m s (xs ++ ys) ≡ footprints_by_number m s xs ++ footprints_by_number m (run m s xs) ys
  footprints_by_number-append s [] ys = refl
  footprints_by_number-append s (x ∷ xs) ys = ap (λ zs. (x.0, m.footprint s x.1) ∷ zs) (footprints_by_number-append (m.after s x.1) xs ys)

  undo_keeps_cut : (s : m.State) (n : ℕ) (e : m.Event) (before later : List (ℕ × m.Event)) → AllByRecursion (λ (x : ℕ × m.Event). x.0 < n) before → Legal m s (before ++ (n, e) ∷ later) → nearest_to m n (entries m s (before ++ (n, e) ∷ later)) ≡ None →
      footprints_by_number m s (without n (before ++ (n, e) ∷ later)) ≡ without n (footprints_by_number m s (before ++ (n, e) ∷ later))
  undo_keeps_cut s n e before later below legal none =
      let u : m.State = run m s before in
      let here : Legal m u ((n, e) ∷ later) = Runs.legal_back m s before ((n, e) ∷ later) legal in
      let r : Removed m u e later = Runs.removal m l u e later here.0 here.1 (removed_at s n e before later below none) in
      let front : List (ℕ × m.Footprint) = footprints_by_number m s before in
      ap (footprints_by_number m s) (numbers.without_cut n e before later below)
      ∙ footprints_by_number-append s before later
      ∙ ap (λ fs. front ++ numbered_by later fs) r.same_footprints
      ∙ sym (numbers.without_cut n (m.footprint u e) front (footprints_by_number m (m.after u e) later) (numbered_all (λ k. k < n) before (footprints m s before) below))
      ∙ sym (ap (without n) (footprints_by_number-append s before ((n, e) ∷ later)))

  pub undo_keeps_footprints : UndoKeepsFootprints m
  undo_keeps_footprints s n e kept rising legal found none =
      let c : numbers.CutAt n e kept = numbers.cut n e kept rising found in
      subst (λ xs. footprints_by_number m s (without n xs) ≡ without n (footprints_by_number m s xs)) (sym c.is)
      (undo_keeps_cut s n e c.before c.later c.below (subst (Legal m s) c.is legal) (subst (λ xs. nearest_to m n (entries m s xs) ≡ None) c.is none))

  redo_keeps_cut : (s : m.State) (n : ℕ) (e : m.Event) (before later : List (ℕ × m.Event)) → AllByRecursion (λ (x : ℕ × m.Event). x.0 < n) before → AllByRecursion (λ (x : ℕ × m.Event). n < x.0) later →
      Legal m s (before ++ later) → Accepts m (run m s (before ++ later)) e → nearest_above m n (m.footprint (run m s (before ++ later)) e) (entries m s (before ++ later)) ≡ None →
      footprints_by_number m s (put n e (before ++ later)) ≡ put n (m.footprint (run m s (before ++ later)) e) (footprints_by_number m s (before ++ later))
  redo_keeps_cut s n e before later below above legal acc none =
      let u : m.State = run m s before in
      let now : run m s (before ++ later) ≡ run m u later = Runs.run-append m s before later in
      let p : Placed m u e later = Runs.place m l u e later (Runs.legal_back m s before later legal) (subst (λ t. Accepts m t e) now acc) (placed_at s n e before later below above none) in
      let front : List (ℕ × m.Footprint) = footprints_by_number m s before in
      ap (footprints_by_number m s) (numbers.put_cut n e before later below above)
      ∙ footprints_by_number-append s before ((n, e) ∷ later)
      ∙ ap₂ (λ f fs. front ++ (n, f) ∷ numbered_by later fs) (p.same_footprint ∙ sym (ap (λ t. m.footprint t e) now)) p.same_footprints
      ∙ sym (numbers.put_cut n (m.footprint (run m s (before ++ later)) e) front (footprints_by_number m u later)
      (numbered_all (λ k. k < n) before (footprints m s before) below) (numbered_all (λ k. n < k) later (footprints m u later) above))
      ∙ sym (ap (put n (m.footprint (run m s (before ++ later)) e)) (footprints_by_number-append s before later))

  pub redo_keeps_footprints : RedoKeepsFootprints m
  redo_keeps_footprints s n e kept rising legal missing acc none =
      let c : numbers.Gap n kept = numbers.gap n kept rising missing in
      subst (λ xs. footprints_by_number m s (put n e xs) ≡ put n (m.footprint (run m s xs) e) (footprints_by_number m s xs)) (sym c.is)
      (redo_keeps_cut s n e c.before c.later c.below c.above (subst (Legal m s) c.is legal) (subst (λ xs. Accepts m (run m s xs) e) c.is acc)
      (subst (λ xs. nearest_above m n (m.footprint (run m s xs) e) (entries m s xs) ≡ None) c.is none))

module _ (m : Machine) where
  pub undo_rises : UndoRises m
  undo_rises n kept rising = (without_rises n kept rising, without_missing n kept rising)

  pub redo_rises : RedoRises m
  redo_rises n e kept rising missing =
      let c : numbers.Gap n kept = numbers.gap n kept rising missing in (
        put_rises n e kept rising missing,
        ap (λ xs. event_at n (put n e xs)) c.is ∙ ap (event_at n) (numbers.put_cut n e c.before c.later c.below c.above) ∙ event_at_cut n e c.before c.later c.below,
      )

  pub greatest_is_free : GreatestIsFree m
  greatest_is_free s n e kept rising =
      let below : AllByRecursion (λ (y : ℕ × m.Event). y.0 < n) kept = below_last kept (n, e) rising in
      (numbers.nearest_to_cut m s n e kept [] below, numbers.without_cut n e kept [] below ∙ append-nil kept)

-- what stands in the way of an undo, and of a redo
module _ {A : Type 0} (conflict : A → A → Bool) where
  pub free_has : (a : A) (xs : List A) → Free conflict a xs → (x : A) → Has xs x → conflict a x ≡ false
  free_has a [] free x h = absurd h
  free_has a (y ∷ xs) free x h = elim h [ inl p ↦ ap (conflict a) (sym p) ∙ free.0 | inr r ↦ free_has a xs free.1 x r ]

module _ (m : Machine) where
  -- no later event conflicts with n's
  abbrev NoDependent : List (Entry m) → ℕ → Type 0
  NoDependent zs n = (one other : Entry m) → one.number ≡ n → Stands one other zs → clash m one other ≡ true → ⊥

  none_cut : (z : Entry m) (front rest : List (Entry m)) → Distinct (map (laws.number m) (front ++ z ∷ rest)) → (number_of m (nearest (clash m) z rest) ≡ None) ↔ NoDependent (front ++ z ∷ rest) z.number
  none_cut z front rest apart = (
    λ none one other num later c.
        let same_one : one ≡ z = laws.one_image (laws.number m) (front ++ z ∷ rest) apart one z (Order.stands_has one other (front ++ z ∷ rest) later).0 (laws.in_middle m front z rest) num in
        let behind : Has rest other = laws.stands_later m front z rest other (laws.distinct_of_map (laws.number m) (front ++ z ∷ rest) apart) (subst (λ y. Stands y other (front ++ z ∷ rest)) same_one later) in
        true≢false (sym c ∙ ap (λ y. clash m y other) same_one ∙ free_has (clash m) z rest (laws.free_of m z rest none) other behind),
    λ none. laws.of_free m z rest (Order.free_by (clash m) z rest (λ x h. elim (either (clash m z x)) [
      | inl c ↦ absurd (none z x refl (laws.stands_from m front z rest x h) c)
      | inr c ↦ c
    ])),
  )

  nearest_none_cut : (s : m.State) (n : ℕ) (e : m.Event) (before later : List (ℕ × m.Event)) → AllByRecursion (λ (x : ℕ × m.Event). x.0 < n) before → IsRising (before ++ (n, e) ∷ later) →
      (nearest_to m n (entries m s (before ++ (n, e) ∷ later)) ≡ None) ↔ NoDependent (entries m s (before ++ (n, e) ∷ later)) n
  nearest_none_cut s n e before later below rising =
      let u : m.State = run m s before in
      let z : Entry m = record { number = n; event = e; footprint = m.footprint u e } in
      let rest : List (Entry m) = entries m (m.after u e) later in
      let whole : entries m s (before ++ (n, e) ∷ later) ≡ entries m s before ++ z ∷ rest = laws.entries-append m s before ((n, e) ∷ later) in
      let here = none_cut z (entries m s before) rest (subst (λ zs. Distinct (map (laws.number m) zs)) whole (laws.rising_distinct m s (before ++ (n, e) ∷ later) rising)) in
      let is = numbers.nearest_to_cut m s n e before later below in (
        λ none. subst (λ zs. NoDependent zs n) (sym whole) (here.0 (sym is ∙ none)),
        λ none. is ∙ here.1 (subst (λ zs. NoDependent zs n) whole none),
      )

  pub nearest_is_none : NearestIsNone m
  nearest_is_none s n e kept rising found =
      let c : numbers.CutAt n e kept = numbers.cut n e kept rising found in
      subst (λ xs. (nearest_to m n (entries m s xs) ≡ None) ↔ NoDependent (entries m s xs) n) (sym c.is) (nearest_none_cut s n e c.before c.later c.below (subst IsRising c.is rising))

  -- one step of the search above a number
  above_here : (n : ℕ) (f : m.Footprint) (z : Entry m) (zs : List (Entry m)) → nat_lt n z.number ≡ true → nearest_above m n f (z ∷ zs) ≡ cond (m.conflict f z.footprint) (Some z.number) (nearest_above m n f zs)
  above_here n f z zs t = ap (λ b. cond b (cond (m.conflict f z.footprint) (Some z.number) (nearest_above m n f zs)) (nearest_above m n f zs)) t

  above_not : (n : ℕ) (f : m.Footprint) (z : Entry m) (zs : List (Entry m)) → nat_lt n z.number ≡ false → nearest_above m n f (z ∷ zs) ≡ nearest_above m n f zs
  above_not n f z zs t = ap (λ b. cond b (cond (m.conflict f z.footprint) (Some z.number) (nearest_above m n f zs)) (nearest_above m n f zs)) t

  record LeastAbove (zs : List (Entry m)) (n : ℕ) (f : m.Footprint) (k : ℕ) : Type 0 where
    other : Entry m
    has : Has zs other
    of_k : other.number ≡ k
    above : n < k
    conflicts : m.conflict f other.footprint ≡ true
    least : (z : Entry m) → Has zs z → n < z.number → m.conflict f z.footprint ≡ true → k ≤ z.number

  -- the same behind an entry that is not above the number or does not conflict
  least_behind : (n : ℕ) (f : m.Footprint) (k : ℕ) (y : Entry m) (zs : List (Entry m)) → (n < y.number → m.conflict f y.footprint ≡ true → ⊥) → LeastAbove zs n f k → LeastAbove (y ∷ zs) n f k
  least_behind n f k y zs out r = record {
    other = r.other;
    has = inr r.has;
    of_k = r.of_k;
    above = r.above;
    conflicts = r.conflicts;
    least = λ x i lt c. elim i [
      | inl p ↦ absurd (out (subst (λ (z : Entry m). n < z.number) (sym p) lt) (ap (λ (z : Entry m). m.conflict f z.footprint) p ∙ c))
      | inr q ↦ r.least x q lt c
    ];
  }

  least_above : (n : ℕ) (f : m.Footprint) (k : ℕ) (zs : List (Entry m)) → laws.Rises m zs → nearest_above m n f zs ≡ Some k → LeastAbove zs n f k
  least_above n f k [] rise h = cc
  least_above n f k (y ∷ zs) rise h = elim (either (nat_lt n y.number)) [
    | inl t ↦ elim (either (m.conflict f y.footprint)) [
      | inl c ↦
          let w : Some y.number ≡ Some k = sym (ap (λ b. cond b (Some y.number) (nearest_above m n f zs)) c) ∙ sym (above_here n f y zs t) ∙ h in
          let num : y.number ≡ k = cc in
          record {
            other = y;
            has = inl refl;
            of_k = num;
            above = subst (λ j. n < j) num (ltb-true n y.number t);
            conflicts = c;
            least = λ x i lt d. elim i [
              | inl p ↦ let q : y.number ≡ x.number = ap (λ (u : Entry m). u.number) p in omega arith
              | inr r ↦ let q : y.number < x.number = rise.0 x r in omega arith
            ];
          }
      | inr c ↦ least_behind n f k y zs (λ lt d. true≢false (sym d ∙ c))
          (least_above n f k zs rise.1 (sym (ap (λ b. cond b (Some y.number) (nearest_above m n f zs)) c) ∙ sym (above_here n f y zs t) ∙ h))
    ]
    | inr t ↦ least_behind n f k y zs (λ lt d. true≢false (sym (lt-ltb n y.number lt) ∙ t)) (least_above n f k zs rise.1 (sym (above_not n f y zs t) ∙ h))
  ]

  pub first_above_is_least : FirstAboveIsLeast m
  first_above_is_least s n f kept k rising h =
      let r : LeastAbove (entries m s kept) n f k = least_above n f k (entries m s kept) (laws.rises m s kept rising) h in
      record { other = r.other; kept_there = r.has; of_k = r.of_k; above = r.above; conflicts = r.conflicts; least = r.least }

  abbrev NoneInTheWay : ℕ → m.Footprint → List (Entry m) → Type 0
  NoneInTheWay n f zs = (z : Entry m) → Has zs z → n < z.number → m.conflict f z.footprint ≡ true → ⊥

  none_to : (n : ℕ) (f : m.Footprint) (y : Entry m) (zs : List (Entry m)) → (nearest_above m n f zs ≡ None → NoneInTheWay n f zs) → nearest_above m n f (y ∷ zs) ≡ None → NoneInTheWay n f (y ∷ zs)
  none_to n f y zs further h z i lt c = elim i [
    | inl p ↦
        let t : nat_lt n y.number ≡ true = lt-ltb n y.number (subst (λ (x : Entry m). n < x.number) (sym p) lt) in
        let d : m.conflict f y.footprint ≡ true = ap (λ (x : Entry m). m.conflict f x.footprint) p ∙ c in
        let w : Some y.number ≡ None = sym (ap (λ b. cond b (Some y.number) (nearest_above m n f zs)) d) ∙ sym (above_here n f y zs t) ∙ h in
        cc
    | inr r ↦ further (elim (either (nat_lt n y.number)) [
      | inl t ↦ elim (either (m.conflict f y.footprint)) [
        | inl d ↦ let w : Some y.number ≡ None = sym (ap (λ b. cond b (Some y.number) (nearest_above m n f zs)) d) ∙ sym (above_here n f y zs t) ∙ h in cc
        | inr d ↦ sym (ap (λ b. cond b (Some y.number) (nearest_above m n f zs)) d) ∙ sym (above_here n f y zs t) ∙ h
      ]
      | inr t ↦ sym (above_not n f y zs t) ∙ h
    ]) z r lt c
  ]

  none_from : (n : ℕ) (f : m.Footprint) (y : Entry m) (zs : List (Entry m)) → (NoneInTheWay n f zs → nearest_above m n f zs ≡ None) → NoneInTheWay n f (y ∷ zs) → nearest_above m n f (y ∷ zs) ≡ None
  none_from n f y zs further h = elim (either (nat_lt n y.number)) [
    | inl t ↦ above_here n f y zs t ∙ elim (either (m.conflict f y.footprint)) [
      | inl d ↦ absurd (h y (inl refl) (ltb-true n y.number t) d)
      | inr d ↦ ap (λ b. cond b (Some y.number) (nearest_above m n f zs)) d ∙ further (λ z r. h z (inr r))
    ]
    | inr t ↦ above_not n f y zs t ∙ further (λ z r. h z (inr r))
  ]

  none_in_the_way : (n : ℕ) (f : m.Footprint) (zs : List (Entry m)) → (nearest_above m n f zs ≡ None) ↔ NoneInTheWay n f zs
  none_in_the_way n f [] = (λ h z k. absurd k, λ h. refl)
  none_in_the_way n f (y ∷ zs) = (none_to n f y zs (none_in_the_way n f zs).0, none_from n f y zs (none_in_the_way n f zs).1)

  pub first_above_is_none : FirstAboveIsNone m
  first_above_is_none s n f kept = none_in_the_way n f (entries m s kept)

-- the cone and what it leaves
module _ {A : Type 0} (conflict : A → A → Bool) where
  out_in : (cs : List A) (x : A) (xs : List A) → any_conflict conflict cs x ≡ true → outside conflict cs (x ∷ xs) ≡ outside conflict (x ∷ cs) xs
  out_in cs x xs h = ap (λ b. cond b (outside conflict (x ∷ cs) xs) (x ∷ outside conflict cs xs)) h

  out_out : (cs : List A) (x : A) (xs : List A) → any_conflict conflict cs x ≡ false → outside conflict cs (x ∷ xs) ≡ x ∷ outside conflict cs xs
  out_out cs x xs h = ap (λ b. cond b (outside conflict (x ∷ cs) xs) (x ∷ outside conflict cs xs)) h

  -- one element joins the members, or the others
  taken_in : (y : A) (xs rest members : List A) → (Has xs y → ⊥) → ((x : A) → Has rest x ↔ (Has xs x × (Has members x → ⊥))) → (x : A) → Has rest x ↔ (Has (y ∷ xs) x × (Has (y ∷ members) x → ⊥))
  taken_in y xs rest members new is x = (
    λ h. (inr ((is x).0 h).0, λ k. elim k [ inl p ↦ new (subst (Has xs) (sym p) ((is x).0 h).0) | inr r ↦ ((is x).0 h).1 r ]),
    λ h. elim h.0 [ inl p ↦ absurd (h.1 (inl p)) | inr r ↦ (is x).1 (r, λ k. h.1 (inr k)) ],
  )

  left_out : (y : A) (xs rest members : List A) → (Has xs y → ⊥) → ((x : A) → Has members x → Has xs x) → ((x : A) → Has rest x ↔ (Has xs x × (Has members x → ⊥))) → (x : A) → Has (y ∷ rest) x ↔ (Has (y ∷ xs) x × (Has members x → ⊥))
  left_out y xs rest members new within is x = (
    λ h. elim h [
      | inl p ↦ (inl p, λ k. new (subst (Has xs) (sym p) (within x k)))
      | inr r ↦ (inr ((is x).0 r).0, ((is x).0 r).1)
    ],
    λ h. elim h.0 [ inl p ↦ inl p | inr r ↦ inr ((is x).1 (r, h.1)) ],
  )

  pub outside_is : (cs xs : List A) → Distinct xs → (x : A) → Has (outside conflict cs xs) x ↔ (Has xs x × (Has (cone conflict cs xs) x → ⊥))
  outside_is cs [] d x = (λ h. absurd h, λ h. h.0)
  outside_is cs (y ∷ xs) d x = elim (either (any_conflict conflict cs y)) [
    | inl i ↦
        let is = taken_in y xs (outside conflict (y ∷ cs) xs) (cone conflict (y ∷ cs) xs) d.0 (outside_is (y ∷ cs) xs d.1) x in (
          λ h. let k = is.0 (subst (λ zs. Has zs x) (out_in cs y xs i) h) in (k.0, λ c. k.1 (subst (λ zs. Has zs x) (Cones.cone_in conflict cs y xs i) c)),
          λ h. subst (λ zs. Has zs x) (sym (out_in cs y xs i)) (is.1 (h.0, λ c. h.1 (subst (λ zs. Has zs x) (sym (Cones.cone_in conflict cs y xs i)) c))),
        )
    | inr o ↦
        let is = left_out y xs (outside conflict cs xs) (cone conflict cs xs) d.0 (λ z k. Cones.cone_within conflict cs xs z k) (outside_is cs xs d.1) x in (
          λ h. let k = is.0 (subst (λ zs. Has zs x) (out_out cs y xs o) h) in (k.0, λ c. k.1 (subst (λ zs. Has zs x) (Cones.cone_out conflict cs y xs o) c)),
          λ h. subst (λ zs. Has zs x) (sym (out_out cs y xs o)) (is.1 (h.0, λ c. h.1 (subst (λ zs. Has zs x) (sym (Cones.cone_out conflict cs y xs o)) c))),
        )
  ]

  pub within_every : (xs : List A) (n : A) (member : A → Bool) → member n ≡ true → ((a b : A) → member a ≡ true → Stands a b xs → conflict a b ≡ true → member b ≡ true) → (x : A) → InCone conflict xs n x → member x ≡ true
  within_every xs n member first closed x itself = first
  within_every xs n member first closed x (depends a b g s e) = closed a b (within_every xs n member first closed a g) s e

module _ (m : Machine) where
  -- at n's entry, and before it
  cone_here : (n : ℕ) (z : Entry m) (zs : List (Entry m)) → nat_eq z.number n ≡ true → cone_of m n (z ∷ zs) ≡ z ∷ cone (clash m) (z ∷ []) zs
  cone_here n z zs t = ap (λ b. cond b (z ∷ cone (clash m) (z ∷ []) zs) (cone_of m n zs)) t

  cone_later : (n : ℕ) (z : Entry m) (zs : List (Entry m)) → nat_eq z.number n ≡ false → cone_of m n (z ∷ zs) ≡ cone_of m n zs
  cone_later n z zs t = ap (λ b. cond b (z ∷ cone (clash m) (z ∷ []) zs) (cone_of m n zs)) t

  rest_here : (n : ℕ) (z : Entry m) (zs : List (Entry m)) → nat_eq z.number n ≡ true → rest_of m n (z ∷ zs) ≡ outside (clash m) (z ∷ []) zs
  rest_here n z zs t = ap (λ b. cond b (outside (clash m) (z ∷ []) zs) (z ∷ rest_of m n zs)) t

  rest_later : (n : ℕ) (z : Entry m) (zs : List (Entry m)) → nat_eq z.number n ≡ false → rest_of m n (z ∷ zs) ≡ z ∷ rest_of m n zs
  rest_later n z zs t = ap (λ b. cond b (outside (clash m) (z ∷ []) zs) (z ∷ rest_of m n zs)) t

  cone_of_within : (n : ℕ) (zs : List (Entry m)) (x : Entry m) → Has (cone_of m n zs) x → Has zs x
  cone_of_within n [] x h = h
  cone_of_within n (z ∷ zs) x h = elim (either (nat_eq z.number n)) [
    | inl t ↦ elim (subst (λ ys. Has ys x) (cone_here n z zs t) h) [ inl p ↦ inl p | inr r ↦ inr (Cones.cone_within (clash m) (z ∷ []) zs x r) ]
    | inr t ↦ inr (cone_of_within n zs x (subst (λ ys. Has ys x) (cone_later n z zs t) h))
  ]

  pub rest_of_is : (n : ℕ) (zs : List (Entry m)) → Distinct zs → (x : Entry m) → Has (rest_of m n zs) x ↔ (Has zs x × (Has (cone_of m n zs) x → ⊥))
  rest_of_is n [] d x = (λ h. absurd h, λ h. h.0)
  rest_of_is n (z ∷ zs) d x = elim (either (nat_eq z.number n)) [
    | inl t ↦
        let is = taken_in (clash m) z zs (outside (clash m) (z ∷ []) zs) (cone (clash m) (z ∷ []) zs) d.0 (outside_is (clash m) (z ∷ []) zs d.1) x in (
          λ h. let k = is.0 (subst (λ ys. Has ys x) (rest_here n z zs t) h) in (k.0, λ c. k.1 (subst (λ ys. Has ys x) (cone_here n z zs t) c)),
          λ h. subst (λ ys. Has ys x) (sym (rest_here n z zs t)) (is.1 (h.0, λ c. h.1 (subst (λ ys. Has ys x) (sym (cone_here n z zs t)) c))),
        )
    | inr t ↦
        let is = left_out (clash m) z zs (rest_of m n zs) (cone_of m n zs) d.0 (λ y k. cone_of_within n zs y k) (rest_of_is n zs d.1) x in (
          λ h. let k = is.0 (subst (λ ys. Has ys x) (rest_later n z zs t) h) in (k.0, λ c. k.1 (subst (λ ys. Has ys x) (cone_later n z zs t) c)),
          λ h. subst (λ ys. Has ys x) (sym (rest_later n z zs t)) (is.1 (h.0, λ c. h.1 (subst (λ ys. Has ys x) (sym (cone_later n z zs t)) c))),
        )
  ]

  all_by : (k : ℕ) (zs : List (Entry m)) → ((y : Entry m) → Has zs y → k < y.number) → AllByRecursion (λ (x : ℕ × m.Event). k < x.0) (events m zs)
  all_by k [] h = tt
  all_by k (z ∷ zs) h = (h z (inl refl), all_by k zs (λ y r. h y (inr r)))

  rising_of_rises : (zs : List (Entry m)) → laws.Rises m zs → IsRising (events m zs)
  rising_of_rises [] h = tt
  rising_of_rises (z ∷ zs) h = (all_by z.number zs h.0, rising_of_rises zs h.1)

  outside_within : (cs zs : List (Entry m)) (x : Entry m) → Has (outside (clash m) cs zs) x → Has zs x
  outside_within cs [] x h = h
  outside_within cs (z ∷ zs) x h = elim (either (any_conflict (clash m) cs z)) [
    | inl i ↦ inr (outside_within (z ∷ cs) zs x (subst (λ ys. Has ys x) (out_in (clash m) cs z zs i) h))
    | inr o ↦ elim (subst (λ ys. Has ys x) (out_out (clash m) cs z zs o) h) [ inl p ↦ inl p | inr r ↦ inr (outside_within cs zs x r) ]
  ]

  outside_rises : (cs zs : List (Entry m)) → laws.Rises m zs → laws.Rises m (outside (clash m) cs zs)
  outside_rises cs [] h = tt
  outside_rises cs (z ∷ zs) h = elim (either (any_conflict (clash m) cs z)) [
    | inl i ↦ subst (laws.Rises m) (sym (out_in (clash m) cs z zs i)) (outside_rises (z ∷ cs) zs h.1)
    | inr o ↦ subst (laws.Rises m) (sym (out_out (clash m) cs z zs o)) (λ y k. h.0 y (outside_within cs zs y k), outside_rises cs zs h.1)
  ]

  rest_rises : (n : ℕ) (zs : List (Entry m)) → Distinct zs → laws.Rises m zs → laws.Rises m (rest_of m n zs)
  rest_rises n [] d h = tt
  rest_rises n (z ∷ zs) d h = elim (either (nat_eq z.number n)) [
    | inl t ↦ subst (laws.Rises m) (sym (rest_here n z zs t)) (outside_rises (z ∷ []) zs h.1)
    | inr t ↦ subst (laws.Rises m) (sym (rest_later n z zs t)) (λ y k. h.0 y ((rest_of_is n zs d.1 y).0 k).0, rest_rises n zs d.1 h.1)
  ]

  pub cone_is_within : ConeIsWithin m
  cone_is_within s kept member one first closed = within_every (clash m) (entries m s kept) one member first closed

module _ (m : Machine) (l : IsLocal m) where
  pub cone_is_least : ConeIsLeast m
  cone_is_least s n e kept rising legal found =
      let zs : List (Entry m) = entries m s kept in
      let apart : Distinct (map (laws.number m) zs) = laws.rising_distinct m s kept rising in
      let each : Distinct zs = laws.distinct_of_map (laws.number m) zs apart in
      let left : IsRun m s (rest_of m n zs) = laws.rest_run m l n s zs (Entries.run_of_legal m s kept legal) in
      record {
        members = λ one has num. laws.cone_of_is m n zs one apart has num;
        rises = rising_of_rises m (cone_of m n zs) (laws.cone_of_rises m n s kept rising);
        others = rest_of_is m n zs each;
        others_rise = rising_of_rises m (rest_of m n zs) (rest_rises m n zs each (laws.rises m s kept rising));
        legal = Entries.legal_of_run m s (rest_of m n zs) left;
        same_footprints = Entries.entries-events m s (rest_of m n zs) left;
      }

  pub both_forms_agree : BothFormsAgree m
  both_forms_agree = Entries.both_definitions m l

  pub same_refusals : SameRefusals m
  same_refusals s xs ys w e = ap (λ t. m.refusal t e) (laws.same_result m l s xs ys w)

module _ (m : Machine) where
  pub same_entries : SameEntries m
  same_entries s xs ys w z = Order.has_kept (clash m) z w.2
