-- Running the same events from two states.
use Rattle.std.proofs.Common.{◌≡◌, ℕ, Bool, true, false, List, [], ◌∷◌, ◌++◌, sym, refl, ap, ap₂, ◌∙◌, ◌⊎◌, inl, inr, true≢false}
use Rattle.rev_causal.specs.Machine.{Machine, IsLocal, Accepts, AgreeOn, AgreeOff, Legal, run, footprints, Avoids, NoneConflicts, Carried, Removed, Placed, Exchanged}

-- a truth value is one of two
pub either : (b : Bool) → (b ≡ true) ⊎ (b ≡ false)
either true = inl refl
either false = inr refl

module _ (m : Machine) (l : IsLocal m) where
  -- an event that accesses nothing of the test writes nothing of it
  pub writes_none : (test : m.Cell → Bool) (f : m.Footprint) → ((k : m.Cell) → test k ≡ true → m.accesses f k ≡ false) → (k : m.Cell) → test k ≡ true → m.writes f k ≡ false
  writes_none test f avoids k h = elim (either (m.writes f k)) [
    | inl w ↦ absurd (true≢false (sym (l.accessed f k w) ∙ avoids k h))
    | inr w ↦ w
  ]

  -- and it reads what is the same in both states
  pub agree_on_accessed : (test : m.Cell → Bool) (f : m.Footprint) → ((k : m.Cell) → test k ≡ true → m.accesses f k ≡ false) → (s t : m.State) → AgreeOff m test s t → AgreeOn m (m.accesses f) s t
  agree_on_accessed test f avoids s t off k h = elim (either (test k)) [
    | inl w ↦ absurd (true≢false (sym h ∙ avoids k w))
    | inr w ↦ off k w
  ]

  -- one step from both states
  pub off_after : (test : m.Cell → Bool) (s t : m.State) (e : m.Event) → Accepts m s e → ((k : m.Cell) → test k ≡ true → m.accesses (m.footprint s e) k ≡ false) → AgreeOff m test s t → AgreeOff m test (m.after s e) (m.after t e)
  off_after test s t e acc avoids off k h =
      let on : AgreeOn m (m.accesses (m.footprint s e)) s t = agree_on_accessed test (m.footprint s e) avoids s t off in
      elim (either (m.writes (m.footprint s e) k)) [
        | inl w ↦ l.written s t e acc on k w
        | inr w ↦ l.kept t e (l.accepted s t e acc on) k (ap (λ f. m.writes f k) (l.same_footprint s t e acc on) ∙ w)
            ∙ off k h ∙ sym (l.kept s e acc k w)
      ]

  pub carry : (test : m.Cell → Bool) (s t : m.State) (es : List (ℕ × m.Event)) → Legal m s es → Avoids m test (footprints m s es) → AgreeOff m test s t → Carried m test s t es
  carry test s t [] legal avoids off = record { legal = tt; same_footprints = refl; off = off; on_first = λ k h. refl; on_second = λ k h. refl }
  carry test s t (e ∷ es) legal avoids off =
      let on : AgreeOn m (m.accesses (m.footprint s e.1)) s t = agree_on_accessed test (m.footprint s e.1) avoids.0 s t off in
      let acc : Accepts m t e.1 = l.accepted s t e.1 legal.0 on in
      let print : m.footprint t e.1 ≡ m.footprint s e.1 = l.same_footprint s t e.1 legal.0 on in
      let none : (k : m.Cell) → test k ≡ true → m.writes (m.footprint s e.1) k ≡ false = writes_none test (m.footprint s e.1) avoids.0 in
      let rest : Carried m test (m.after s e.1) (m.after t e.1) es = carry test (m.after s e.1) (m.after t e.1) es legal.1 avoids.1 (off_after test s t e.1 legal.0 avoids.0 off) in
      record {
        legal = (acc, rest.legal);
        same_footprints = λ i. print i ∷ rest.same_footprints i;
        off = rest.off;
        on_first = λ k h. rest.on_first k h ∙ l.kept s e.1 legal.0 k (none k h);
        on_second = λ k h. rest.on_second k h ∙ l.kept t e.1 acc k (ap (λ f. m.writes f k) print ∙ none k h);
      }

  -- what does not conflict with a footprint avoids what it writes
  pub avoids_written : (f : m.Footprint) (gs : List m.Footprint) → NoneConflicts m f gs → Avoids m (m.writes f) gs
  avoids_written f [] none = tt
  avoids_written f (g ∷ gs) none = (l.apart f g none.0, avoids_written f gs none.1)

  -- what no event of a list writes has its value at the end
  pub unwritten : (test : m.Cell → Bool) (s : m.State) (es : List (ℕ × m.Event)) → Legal m s es → (f : m.Footprint) → ((k : m.Cell) → test k ≡ true → m.accesses f k ≡ true) → NoneConflicts m f (footprints m s es) → AgreeOn m test s (run m s es)
  unwritten test s [] legal f within none k h = refl
  unwritten test s (e ∷ es) legal f within none k h =
      unwritten test (m.after s e.1) es legal.1 f within none.1 k h
      ∙ elim (either (m.writes (m.footprint s e.1) k)) [
        | inl w ↦ absurd (true≢false (sym (within k h) ∙ l.apart (m.footprint s e.1) f (l.both_ways (m.footprint s e.1) f ∙ none.0) k w))
        | inr w ↦ l.kept s e.1 legal.0 k w
      ]

  -- removal
  pub removal : (s : m.State) (n : m.Event) (es : List (ℕ × m.Event)) → Accepts m s n → Legal m (m.after s n) es → NoneConflicts m (m.footprint s n) (footprints m (m.after s n) es) → Removed m s n es
  removal s n es acc legal none =
      let c : Carried m (m.writes (m.footprint s n)) (m.after s n) s es =
      carry (m.writes (m.footprint s n)) (m.after s n) s es legal (avoids_written (m.footprint s n) _ none) (λ k h. sym (l.kept s n acc k h)) in
      record { legal = c.legal; same_footprints = c.same_footprints; put_back = c.on_second; others = c.off }

  -- an event that nothing later conflicts with is accepted at the end too, with the same footprint
  pub accepted_last : (s : m.State) (n : m.Event) (es : List (ℕ × m.Event)) → Accepts m s n → Legal m s es → NoneConflicts m (m.footprint s n) (footprints m s es) → Accepts m (run m s es) n × (m.footprint (run m s es) n ≡ m.footprint s n)
  accepted_last s n es acc legal none =
      let on : AgreeOn m (m.accesses (m.footprint s n)) s (run m s es) = unwritten (m.accesses (m.footprint s n)) s es legal (m.footprint s n) (λ k h. h) none in
      (l.accepted s (run m s es) n acc on, l.same_footprint s (run m s es) n acc on)

  pub place : (s : m.State) (n : m.Event) (es : List (ℕ × m.Event)) → Legal m s es → Accepts m (run m s es) n → NoneConflicts m (m.footprint (run m s es) n) (footprints m s es) → Placed m s n es
  place s n es legal acc none =
      let u : m.State = run m s es in
      let f : m.Footprint = m.footprint u n in
      let on : AgreeOn m (m.accesses f) u s = λ k h. sym (unwritten (m.accesses f) s es legal f (λ k h. h) none k h) in
      let here : Accepts m s n = l.accepted u s n acc on in
      let print : m.footprint s n ≡ f = l.same_footprint u s n acc on in
      let off : AgreeOff m (m.writes f) s (m.after s n) = λ k h. l.kept s n here k (ap (λ g. m.writes g k) print ∙ h) in
      let c : Carried m (m.writes f) s (m.after s n) es = carry (m.writes f) s (m.after s n) es legal (avoids_written f _ none) off in
      record {
        accepted = here;
        legal = c.legal;
        same_footprint = print;
        same_footprints = c.same_footprints;
        result = l.same_state _ _ (λ k. elim (either (m.writes f k)) [
          | inl w ↦ c.on_second k w ∙ l.written u s n acc on k w
          | inr w ↦ c.off k w ∙ sym (l.kept u n acc k w)
        ]);
      }

  pub exchange : (s : m.State) (a b : m.Event) → Accepts m s a → Accepts m (m.after s a) b → m.conflict (m.footprint s a) (m.footprint (m.after s a) b) ≡ false → Exchanged m s a b
  exchange s a b acc_a acc_b apart =
      let r : Removed m s a ((0, b) ∷ []) = removal s a ((0, b) ∷ []) acc_a (acc_b, tt) (apart, tt) in
      let heads : m.footprint s b ∷ [] ≡ m.footprint (m.after s a) b ∷ [] = r.same_footprints in
      let same : m.footprint s b ≡ m.footprint (m.after s a) b = cc in
      let last = accepted_last s a ((0, b) ∷ []) acc_a r.legal (ap (m.conflict (m.footprint s a)) same ∙ apart, tt) in
      let p : Placed m s a ((0, b) ∷ []) = place s a ((0, b) ∷ []) r.legal last.0 (ap₂ m.conflict last.1 same ∙ apart, tt) in
      record {
        first = r.legal.0;
        second = last.0;
        first_footprint = same;
        second_footprint = last.1;
        result = sym p.result;
      }

module _ (m : Machine) where
  pub run-append : (s : m.State) (xs ys : List (ℕ × m.Event)) → run m s (xs ++ ys) ≡ run m (run m s xs) ys
  run-append s [] ys = refl
  run-append s (x ∷ xs) ys = run-append (m.after s x.1) xs ys

  pub footprints-append : (s : m.State) (xs ys : List (ℕ × m.Event)) → footprints m s (xs ++ ys) ≡ footprints m s xs ++ footprints m (run m s xs) ys
  footprints-append s [] ys = refl
  footprints-append s (x ∷ xs) ys = ap (λ fs. m.footprint s x.1 ∷ fs) (footprints-append (m.after s x.1) xs ys)

  pub legal_front : (s : m.State) (xs ys : List (ℕ × m.Event)) → Legal m s (xs ++ ys) → Legal m s xs
  legal_front s [] ys h = tt
  legal_front s (x ∷ xs) ys h = (h.0, legal_front (m.after s x.1) xs ys h.1)

  pub legal_back : (s : m.State) (xs ys : List (ℕ × m.Event)) → Legal m s (xs ++ ys) → Legal m (run m s xs) ys
  legal_back s [] ys h = h
  legal_back s (x ∷ xs) ys h = legal_back (m.after s x.1) xs ys h.1

  pub legal_join : (s : m.State) (xs ys : List (ℕ × m.Event)) → Legal m s xs → Legal m (run m s xs) ys → Legal m s (xs ++ ys)
  legal_join s [] ys h k = k
  legal_join s (x ∷ xs) ys h k = (h.0, legal_join (m.after s x.1) xs ys h.1 k)
