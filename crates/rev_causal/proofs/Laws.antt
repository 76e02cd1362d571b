-- The laws.
use Rattle.std.proofs.Common.{◌≡◌, ℕ, ◌<◌, ◌≤◌, Bool, true, false, cond, List, [], ◌∷◌, ◌++◌, map, append_assoc, sym, refl, ap, subst, ◌∙◌, inl, inr, true≢false, ◌↔◌, ne_eqb, eqb-true, eq-eqb, arith}
use Rattle.std.specs.List.{AllByRecursion}
use Rattle.std.specs.declared.option.Option.TheVariants.{None, Some}
use Rattle.std.specs.Prelude.{nat_eq}
use Rattle.rev_causal.specs.Machine.{Machine, IsLocal, Legal, run}
use Rattle.rev_causal.specs.Order.{any_conflict, InCone, InCone.itself, InCone.depends, cone, outside, Equivalent, Equivalent.same, Equivalent.exchange, Equivalent.behind, Equivalent.back, Equivalent.follow, Free, Loose, Has, Stands, Distinct, nearest}
use Rattle.rev_causal.specs.Entries.{Entry, entries, events, IsRun, clash, SwapEquivalent}
use Rattle.rev_causal.specs.History.{cone_of, rest_of, IsRising, number_of, nearest_to}
use Rattle.rev_causal.specs.Laws.{SameResult, FreeExactlyWhereLast, NoPairInverted, SameExactlyWhereNoneInverted, IsLeastDependent, NearestIsLeast}
use Rattle.rev_causal.proofs.Runs.{either}
use Rattle.rev_causal.proofs.Order
use Rattle.rev_causal.proofs.Cones
use Rattle.rev_causal.proofs.Entries
use Rattle.rev_causal.proofs.Numbers as numbers

pub nothing_clashes : {B : Type 0} → B → B → Bool
nothing_clashes a b = false

-- exchanges of the images, where nothing conflicts
pub mapped : {A B : Type 0} (conflict : A → A → Bool) (f : A → B) {xs ys : List A} → Equivalent conflict xs ys → Equivalent nothing_clashes (map f xs) (map f ys)
unfolding nothing_clashes
mapped conflict f same = same
mapped conflict f (exchange a b xs none) = exchange (f a) (f b) (map f xs) refl
mapped conflict f (behind x e) = behind (f x) (mapped conflict f e)
mapped conflict f (back e) = back (mapped conflict f e)
mapped conflict f (follow e g) = follow (mapped conflict f e) (mapped conflict f g)

pub has_map : {A B : Type 0} (f : A → B) (xs : List A) (x : A) → Has xs x → Has (map f xs) (f x)
has_map f [] x h = h
has_map f (y ∷ xs) x h = elim h [ inl p ↦ inl (ap f p) | inr r ↦ inr (has_map f xs x r) ]

-- an end that stands once
only_end : {A : Type 0} (xs : List A) (a : A) → Distinct (xs ++ a ∷ []) → Has xs a → ⊥
only_end [] a d h = h
only_end (x ∷ xs) a d h = elim h [
  | inl p ↦ d.0 (subst (λ y. Has (xs ++ a ∷ []) y) (sym p) (at_end xs))
  | inr r ↦ only_end xs a d.1 r
]
  where
    at_end : (ys : List _) → Has (ys ++ a ∷ []) a
    at_end [] = inl refl
    at_end (y ∷ ys) = inr (at_end ys)

module _ (m : Machine) where
  abbrev pub number : Entry m → ℕ
  number z = z.number

  numbers_rise : (s : m.State) (es : List (ℕ × m.Event)) (k : ℕ) → AllByRecursion (λ (x : ℕ × m.Event). k < x.0) es → Has (map number (entries m s es)) k → ⊥
  numbers_rise s [] k all h = h
  numbers_rise s (e ∷ es) k all h = elim h [
    | inl p ↦ absurd (omega (arith, all.0))
    | inr r ↦ numbers_rise (m.after s e.1) es k all.1 r
  ]

  pub rising_distinct : (s : m.State) (es : List (ℕ × m.Event)) → IsRising es → Distinct (map number (entries m s es))
  rising_distinct s [] h = tt
  rising_distinct s (e ∷ es) h = (numbers_rise (m.after s e.1) es e.0 h.0, rising_distinct (m.after s e.1) es h.1)

  pub entries-append : (s : m.State) (xs ys : List (ℕ × m.Event)) → entries m s (xs ++ ys) ≡ entries m s xs ++ entries m (run m s xs) ys
  entries-append s [] ys = refl
  entries-append s (x ∷ xs) ys = ap (λ zs. record { number = x.0; event = x.1; footprint = m.footprint s x.1 } ∷ zs) (entries-append (m.after s x.1) xs ys)

  events-append : (xs ys : List (Entry m)) → events m (xs ++ ys) ≡ events m xs ++ events m ys
  events-append [] ys = refl
  events-append (x ∷ xs) ys = ap (λ zs. (x.number, x.event) ∷ zs) (events-append xs ys)

  map-end : (xs : List (Entry m)) (z : Entry m) → map number (xs ++ z ∷ []) ≡ map number xs ++ number z ∷ []
  map-end [] z = refl
  map-end (x ∷ xs) z = ap (λ ns. number x ∷ ns) (map-end xs z)

module _ (m : Machine) where
  pub free_of : (z : Entry m) (zs : List (Entry m)) → number_of m (nearest (clash m) z zs) ≡ None → Free (clash m) z zs
  free_of z [] h = tt
  free_of z (y ∷ zs) h = elim (either (clash m z y)) [
    | inl c ↦ let w : Some y.number ≡ None = subst (λ b. number_of m (cond b (Some y) (nearest (clash m) z zs)) ≡ None) c h in cc
    | inr c ↦ (c, free_of z zs (subst (λ b. number_of m (cond b (Some y) (nearest (clash m) z zs)) ≡ None) c h))
  ]

  pub of_free : (z : Entry m) (zs : List (Entry m)) → Free (clash m) z zs → number_of m (nearest (clash m) z zs) ≡ None
  of_free z [] h = refl
  of_free z (y ∷ zs) h = ap (λ b. number_of m (cond b (Some y) (nearest (clash m) z zs))) h.0 ∙ of_free z zs h.1

  loose_at : (n : ℕ) (zs : List (Entry m)) → Loose (clash m) (λ z. nat_eq z.number n) zs → nearest_to m n zs ≡ None
  loose_at n [] h = refl
  loose_at n (z ∷ zs) h = elim (either (nat_eq z.number n)) [
    | inl t ↦ ap (λ b. cond b (number_of m (nearest (clash m) z zs)) (nearest_to m n zs)) t ∙ of_free z zs (h.0 t)
    | inr t ↦ ap (λ b. cond b (number_of m (nearest (clash m) z zs)) (nearest_to m n zs)) t ∙ loose_at n zs h.1
  ]

module _ (m : Machine) (l : IsLocal m) where
  pub same_result : SameResult m
  same_result s xs ys e =
      let r = (Entries.reached m l s e.2).0 (Entries.run_of_legal m s xs e.0) in
      sym (Entries.last_state-entries m s ys) ∙ r.result ∙ Entries.last_state-entries m s xs

  last_from_free : (s : m.State) (n : ℕ) (e : m.Event) (before later : List (ℕ × m.Event)) → AllByRecursion (λ (x : ℕ × m.Event). x.0 < n) before → Legal m s (before ++ (n, e) ∷ later) → nearest_to m n (entries m s (before ++ (n, e) ∷ later)) ≡ None →
      (ys : List (ℕ × m.Event)) × SwapEquivalent m s (before ++ (n, e) ∷ later) (ys ++ (n, e) ∷ [])
  last_from_free s n e before later below legal none =
      let u : m.State = run m s before in
      let z : Entry m = record { number = n; event = e; footprint = m.footprint u e } in
      let front : List (Entry m) = entries m s before in
      let rest : List (Entry m) = entries m (m.after u e) later in
      let free : Free (clash m) z rest = free_of m z rest (sym (numbers.nearest_to_cut m s n e before later below) ∙ none) in
      let whole : entries m s (before ++ (n, e) ∷ later) ≡ front ++ z ∷ rest = entries-append m s before ((n, e) ∷ later) in
      let steps : Equivalent (clash m) (entries m s (before ++ (n, e) ∷ later)) (front ++ (rest ++ z ∷ [])) =
      subst (λ zs. Equivalent (clash m) zs (front ++ (rest ++ z ∷ []))) (sym whole) (Order.under (clash m) front (Order.to_end (clash m) z rest free)) in
      let r = (Entries.reached m l s steps).0 (Entries.run_of_legal m s _ legal) in
      let ys : List (ℕ × m.Event) = events m (front ++ rest) in
      let is : events m (front ++ (rest ++ z ∷ [])) ≡ ys ++ (n, e) ∷ [] = ap (events m) (sym (append_assoc front rest (z ∷ []))) ∙ events-append m (front ++ rest) (z ∷ []) in (
        ys,
        (
          legal,
          subst (Legal m s) is (Entries.legal_of_run m s _ r.is_run),
          subst (Equivalent (clash m) (entries m s (before ++ (n, e) ∷ later))) (sym (Entries.entries-events m s _ r.is_run) ∙ ap (entries m s) is) steps,
        ),
      )

  free_from_last : (s : m.State) (n : ℕ) (e : m.Event) (kept ys : List (ℕ × m.Event)) → IsRising kept → SwapEquivalent m s kept (ys ++ (n, e) ∷ []) → nearest_to m n (entries m s kept) ≡ None
  free_from_last s n e kept ys rising w =
      let z : Entry m = record { number = n; event = e; footprint = m.footprint (run m s ys) e } in
      let zs : List (Entry m) = entries m s ys in
      let steps : Equivalent (clash m) (entries m s kept) (zs ++ z ∷ []) = subst (Equivalent (clash m) (entries m s kept)) (entries-append m s ys ((n, e) ∷ [])) w.2 in
      let apart : Distinct (map (number m) (zs ++ z ∷ [])) = (Order.distinct_kept nothing_clashes (mapped (clash m) (number m) steps)).0 (rising_distinct m s kept rising) in
      let once : Has (map (number m) zs) n → ⊥ = only_end (map (number m) zs) n (subst Distinct (map-end m zs z) apart) in
      let loose : Loose (clash m) (λ (y : Entry m). nat_eq y.number n) (zs ++ z ∷ []) =
      Order.loose_end (clash m) (λ a b. l.both_ways a.footprint b.footprint) (λ (y : Entry m). nat_eq y.number n) zs z
      (λ y h. ne_eqb y.number n (λ p. once (subst (Has (map (number m) zs)) p (has_map (number m) zs y h)))) in
      loose_at m n (entries m s kept) ((Order.loose_kept (clash m) (λ a b. l.both_ways a.footprint b.footprint) (λ (y : Entry m). nat_eq y.number n) steps).1 loose)

  pub free_exactly_where_last : FreeExactlyWhereLast m
  free_exactly_where_last s n e kept rising legal found =
      let c : numbers.CutAt n e kept = numbers.cut n e kept rising found in (
        λ none. subst (λ xs. (ys : List (ℕ × m.Event)) × SwapEquivalent m s xs (ys ++ (n, e) ∷ [])) (sym c.is)
            (last_from_free s n e c.before c.later c.below (subst (Legal m s) c.is legal) (subst (λ xs. nearest_to m n (entries m s xs) ≡ None) c.is none)),
        λ w. free_from_last s n e kept w.0 rising w.1,
      )

pub map_has : {A B : Type 0} (f : A → B) (xs : List A) (y : B) → Has (map f xs) y → (x : A) × Has xs x × (f x ≡ y)
map_has f [] y h = absurd h
map_has f (x ∷ xs) y h = elim h [
  | inl p ↦ (x, inl refl, p)
  | inr r ↦ let k : (z : _) × Has xs z × (f z ≡ y) = map_has f xs y r in (k.0, inr k.1, k.2)
]

pub distinct_of_map : {A B : Type 0} (f : A → B) (xs : List A) → Distinct (map f xs) → Distinct xs
distinct_of_map f [] d = tt
distinct_of_map f (x ∷ xs) d = (λ h. d.0 (has_map f xs x h), distinct_of_map f xs d.1)

-- two of a list whose images are distinct
pub one_image : {A B : Type 0} (f : A → B) (xs : List A) → Distinct (map f xs) → (a b : A) → Has xs a → Has xs b → f a ≡ f b → a ≡ b
one_image f [] d a b h k e = absurd h
one_image f (x ∷ xs) d a b h k e = elim h [
  | inl p ↦ elim k [
    | inl q ↦ sym p ∙ q
    | inr r ↦ absurd (d.0 (subst (Has (map f xs)) (sym e ∙ ap f (sym p)) (has_map f xs b r)))
  ]
  | inr r ↦ elim k [
    | inl q ↦ absurd (d.0 (subst (Has (map f xs)) (e ∙ ap f (sym q)) (has_map f xs a r)))
    | inr s ↦ one_image f xs d.1 a b r s e
  ]
]

pub stands_map : {A B : Type 0} (f : A → B) (xs : List A) (a b : A) → Stands a b xs → Stands (f a) (f b) (map f xs)
stands_map f [] a b h = h
stands_map f (x ∷ xs) a b h = elim h [ inl w ↦ inl (ap f w.0, has_map f xs b w.1) | inr r ↦ inr (stands_map f xs a b r) ]

pub stands_unmap : {A B : Type 0} (f : A → B) (xs : List A) (a b : A) → ((x : A) → Has xs x → f x ≡ f a → x ≡ a) → ((x : A) → Has xs x → f x ≡ f b → x ≡ b) → Stands (f a) (f b) (map f xs) → Stands a b xs
stands_unmap f [] a b ia ib h = h
stands_unmap f (x ∷ xs) a b ia ib h = elim h [
  | inl w ↦
      let k = map_has f xs (f b) w.1 in
      inl (ia x (inl refl) w.0, subst (Has xs) (ib k.0 (inr k.1) k.2) k.1)
  | inr r ↦ inr (stands_unmap f xs a b (λ y g. ia y (inr g)) (λ y g. ib y (inr g)) r)
]

module _ (m : Machine) (l : IsLocal m) where
  abbrev pub pair : Entry m → ℕ × m.Event
  pair z = (z.number, z.event)

  same_number : (x y : Entry m) → pair x ≡ pair y → number m x ≡ number m y
  same_number x y e = ap (λ (p : ℕ × m.Event). p.0) e

  events_are : (zs : List (Entry m)) → events m zs ≡ map pair zs
  events_are [] = refl
  events_are (z ∷ zs) = ap (λ ys. (z.number, z.event) ∷ ys) (events_are zs)

  pub numbers_are : (zs : List (Entry m)) → map (number m) zs ≡ map (λ (y : ℕ × m.Event). y.0) (map pair zs)
  numbers_are [] = refl
  numbers_are (z ∷ zs) = ap (λ ns. z.number ∷ ns) (numbers_are zs)

  pub pairs_of : (s : m.State) (xs : List (ℕ × m.Event)) → map pair (entries m s xs) ≡ xs
  pairs_of s xs = sym (events_are (entries m s xs)) ∙ Entries.events-entries m s xs

  pub has_entry : (s : m.State) (xs : List (ℕ × m.Event)) (x : ℕ × m.Event) → Has xs x → (z : Entry m) × Has (entries m s xs) z × (pair z ≡ x)
  has_entry s xs x h = map_has pair (entries m s xs) x (subst (λ ys. Has ys x) (sym (pairs_of s xs)) h)

  record Picked (zs : List (Entry m)) (ys : List (ℕ × m.Event)) : Type 0 where
    list : List (Entry m)
    is : map pair list ≡ ys
    within : (z : Entry m) → Has list z → Has zs z

  pick : (s : m.State) (xs ys : List (ℕ × m.Event)) → ((y : ℕ × m.Event) → Has ys y → Has xs y) → Picked (entries m s xs) ys
  pick s xs [] h = record { list = []; is = refl; within = λ z k. absurd k }
  pick s xs (y ∷ ys) h =
      let w : (z : Entry m) × Has (entries m s xs) z × (pair z ≡ y) = has_entry s xs y (h y (inl refl)) in
      let p : Picked (entries m s xs) ys = pick s xs ys (λ x k. h x (inr k)) in
      record {
        list = w.0 ∷ p.list;
        is = λ i. w.2 i ∷ p.is i;
        within = λ z k. elim k [ inl q ↦ subst (Has (entries m s xs)) q w.1 | inr r ↦ p.within z r ];
      }

  both : (a b : Entry m) → clash m a b ≡ clash m b a
  both a b = l.both_ways a.footprint b.footprint

  inverted_none : (s : m.State) (xs ys : List (ℕ × m.Event)) → IsRising xs → SwapEquivalent m s xs ys → NoPairInverted m s xs ys
  inverted_none s xs ys rising w a b c here there =
      let apart : Distinct (map (number m) (entries m s xs)) = rising_distinct m s xs rising in
      let apart_there : Distinct (map (number m) (entries m s ys)) = (Order.distinct_kept nothing_clashes (mapped (clash m) (number m) w.2)).0 apart in
      let two : Has (entries m s xs) a × Has (entries m s xs) b = Order.stands_has a b (entries m s xs) here in
      let a_there : Has (entries m s ys) a = (Order.has_kept (clash m) a w.2).0 two.0 in
      let b_there : Has (entries m s ys) b = (Order.has_kept (clash m) b w.2).0 two.1 in
      Order.none_inverted (clash m) both (entries m s xs) (entries m s ys) (distinct_of_map (number m) _ apart) w.2 a b c here
      (stands_unmap pair (entries m s ys) b a (λ x h e. one_image (number m) (entries m s ys) apart_there x b h b_there (same_number x b e)) (λ x h e. one_image (number m) (entries m s ys) apart_there x a h a_there (same_number x a e))
      (subst (Stands (pair b) (pair a)) (sym (pairs_of s ys)) there))

  none_inverted_same : (s : m.State) (xs ys : List (ℕ × m.Event)) → Legal m s xs → IsRising xs → Distinct (map (λ (y : ℕ × m.Event). y.0) ys) → ((x : ℕ × m.Event) → Has xs x ↔ Has ys x) → NoPairInverted m s xs ys → SwapEquivalent m s xs ys
  none_inverted_same s xs ys legal rising apart is none =
      let p : Picked (entries m s xs) ys = pick s xs ys (λ y h. (is y).1 h) in
      let here : Distinct (map (number m) (entries m s xs)) = rising_distinct m s xs rising in
      let there : Distinct (map (number m) p.list) = subst Distinct (ap (map (λ (y : ℕ × m.Event). y.0)) (sym p.is) ∙ sym (numbers_are p.list)) apart in
      let to : (z : Entry m) → Has (entries m s xs) z → Has p.list z = λ z h.
      let k : (y : Entry m) × Has p.list y × (pair y ≡ pair z) = map_has pair p.list (pair z)
      (subst (λ us. Has us (pair z)) (sym p.is) ((is (pair z)).0 (subst (λ us. Has us (pair z)) (pairs_of s xs) (has_map pair (entries m s xs) z h)))) in
      subst (Has p.list) (one_image (number m) (entries m s xs) here k.0 z (p.within k.0 k.1) h (same_number k.0 z k.2)) k.1 in
      let steps : Equivalent (clash m) (entries m s xs) p.list =
      Order.rearrange (clash m) both (entries m s xs) p.list (distinct_of_map (number m) _ here) (distinct_of_map (number m) _ there) (λ z. (to z, p.within z))
      (λ a b c h k. none a b c h (subst (Stands (pair b) (pair a)) p.is (stands_map pair p.list b a k))) in
      let r = (Entries.reached m l s steps).0 (Entries.run_of_legal m s xs legal) in
      let back : events m p.list ≡ ys = events_are p.list ∙ p.is in (
        legal,
        subst (Legal m s) back (Entries.legal_of_run m s p.list r.is_run),
        subst (Equivalent (clash m) (entries m s xs)) (sym (Entries.entries-events m s p.list r.is_run) ∙ ap (entries m s) back) steps,
      )

  pub same_exactly_where_none_inverted : SameExactlyWhereNoneInverted m
  same_exactly_where_none_inverted s xs ys legal rising apart is = (inverted_none s xs ys rising, none_inverted_same s xs ys legal rising apart is)

-- the nearest is the least
module _ (m : Machine) where
  abbrev pub Rises : List (Entry m) → Type 0
  Rises [] = Unit {0}
  Rises (z ∷ zs) = ((y : Entry m) → Has zs y → z.number < y.number) × Rises zs

  above_all : (s : m.State) (es : List (ℕ × m.Event)) (k : ℕ) → AllByRecursion (λ (x : ℕ × m.Event). k < x.0) es → (y : Entry m) → Has (entries m s es) y → k < y.number
  above_all s [] k all y h = absurd h
  above_all s (e ∷ es) k all y h = elim h [
    | inl p ↦ subst (λ (z : Entry m). k < z.number) p all.0
    | inr r ↦ above_all (m.after s e.1) es k all.1 y r
  ]

  pub rises : (s : m.State) (es : List (ℕ × m.Event)) → IsRising es → Rises (entries m s es)
  rises s [] h = tt
  rises s (e ∷ es) h = (above_all (m.after s e.1) es e.0 h.0, rises (m.after s e.1) es h.1)

  rising_later : (before : List (ℕ × m.Event)) (x : ℕ × m.Event) (later : List (ℕ × m.Event)) → IsRising (before ++ x ∷ later) → IsRising later
  rising_later [] x later h = h.1
  rising_later (y ∷ before) x later h = rising_later before x later h.1

  record LeastOf (z : Entry m) (zs : List (Entry m)) (k : ℕ) : Type 0 where
    other : Entry m
    has : Has zs other
    of_k : other.number ≡ k
    conflicts : clash m z other ≡ true
    least : (x : Entry m) → Has zs x → clash m z x ≡ true → k ≤ x.number

  least_of : (z : Entry m) (zs : List (Entry m)) (k : ℕ) → Rises zs → number_of m (nearest (clash m) z zs) ≡ Some k → LeastOf z zs k
  least_of z [] k rise h = cc
  least_of z (y ∷ zs) k rise h = elim (either (clash m z y)) [
    | inl c ↦
        let w : Some y.number ≡ Some k = subst (λ b. number_of m (cond b (Some y) (nearest (clash m) z zs)) ≡ Some k) c h in
        let num : y.number ≡ k = cc in
        record {
          other = y;
          has = inl refl;
          of_k = num;
          conflicts = c;
          least = λ x i d. elim i [
            | inl p ↦ let q : y.number ≡ x.number = ap (λ (u : Entry m). u.number) p in omega arith
            | inr r ↦ let q : y.number < x.number = rise.0 x r in omega arith
          ];
        }
    | inr c ↦
        let r : LeastOf z zs k = least_of z zs k rise.1 (subst (λ b. number_of m (cond b (Some y) (nearest (clash m) z zs)) ≡ Some k) c h) in
        record {
          other = r.other;
          has = inr r.has;
          of_k = r.of_k;
          conflicts = r.conflicts;
          least = λ x i d. elim i [
            | inl p ↦ absurd (true≢false (sym d ∙ ap (clash m z) (sym p) ∙ c))
            | inr q ↦ r.least x q d
          ];
        }
  ]

  pub stands_from : (front : List (Entry m)) (z : Entry m) (rest : List (Entry m)) (y : Entry m) → Has rest y → Stands z y (front ++ z ∷ rest)
  stands_from [] z rest y h = inl (refl, h)
  stands_from (x ∷ front) z rest y h = inr (stands_from front z rest y h)

  pub in_middle : (front : List (Entry m)) (z : Entry m) (rest : List (Entry m)) → Has (front ++ z ∷ rest) z
  in_middle [] z rest = inl refl
  in_middle (x ∷ front) z rest = inr (in_middle front z rest)

  pub stands_later : (front : List (Entry m)) (z : Entry m) (rest : List (Entry m)) (y : Entry m) → Distinct (front ++ z ∷ rest) → Stands z y (front ++ z ∷ rest) → Has rest y
  stands_later [] z rest y d h = elim h [ inl w ↦ w.1 | inr r ↦ (Order.stands_has z y rest r).1 ]
  stands_later (x ∷ front) z rest y d h = elim h [
    | inl w ↦ absurd (d.0 (subst (Has (front ++ z ∷ rest)) (sym w.0) (in_middle front z rest)))
    | inr r ↦ stands_later front z rest y d.1 r
  ]

  nearest_cut_is : (s : m.State) (n : ℕ) (e : m.Event) (before later : List (ℕ × m.Event)) (k : ℕ) → AllByRecursion (λ (x : ℕ × m.Event). x.0 < n) before → IsRising (before ++ (n, e) ∷ later) → nearest_to m n (entries m s (before ++ (n, e) ∷ later)) ≡ Some k → IsLeastDependent m s (before ++ (n, e) ∷ later) n k
  nearest_cut_is s n e before later k below rising h =
      let u : m.State = run m s before in
      let z : Entry m = record { number = n; event = e; footprint = m.footprint u e } in
      let rest : List (Entry m) = entries m (m.after u e) later in
      let front : List (Entry m) = entries m s before in
      let whole : entries m s (before ++ (n, e) ∷ later) ≡ front ++ z ∷ rest = entries-append m s before ((n, e) ∷ later) in
      let r : LeastOf z rest k = least_of z rest k (rises (m.after u e) later (rising_later before (n, e) later rising)) (sym (numbers.nearest_to_cut m s n e before later below) ∙ h) in
      let apart : Distinct (front ++ z ∷ rest) = subst Distinct whole (distinct_of_map (number m) (entries m s (before ++ (n, e) ∷ later)) (rising_distinct m s (before ++ (n, e) ∷ later) rising)) in
      record {
        one = z;
        other = r.other;
        of_n = refl;
        of_k = r.of_k;
        later = subst (Stands z r.other) (sym whole) (stands_from front z rest r.other r.has);
        conflicts = r.conflicts;
        least = λ x i d. r.least x (stands_later front z rest x apart (subst (Stands z x) whole i)) d;
      }

  pub nearest_is_least : NearestIsLeast m
  nearest_is_least s n e kept k rising found h =
      let c : numbers.CutAt n e kept = numbers.cut n e kept rising found in
      subst (λ xs. IsLeastDependent m s xs n k) (sym c.is)
      (nearest_cut_is s n e c.before c.later k c.below (subst IsRising c.is rising) (subst (λ xs. nearest_to m n (entries m s xs) ≡ Some k) c.is h))

-- the cone by number
module _ {A : Type 0} (conflict : A → A → Bool) where
  in_cone_has : (xs : List A) (n x : A) → Has xs n → InCone conflict xs n x → Has xs x
  in_cone_has xs n x h itself = h
  in_cone_has xs n x h (depends a b g s e) = (Order.stands_has a b xs s).1

  weaker : (y : A) (xs : List A) (n x : A) → InCone conflict xs n x → InCone conflict (y ∷ xs) n x
  weaker y xs n x itself = itself
  weaker y xs n x (depends a b g s e) = depends a b (weaker y xs n a g) (inr s) e

  stronger : (y : A) (xs : List A) (n x : A) → (Has xs y → ⊥) → Has xs n → InCone conflict (y ∷ xs) n x → InCone conflict xs n x
  stronger y xs n x out h itself = itself
  stronger y xs n x out h (depends a b g s e) =
      let k : InCone conflict xs n a = stronger y xs n a out h g in
      elim s [
        | inl w ↦ absurd (out (subst (Has xs) (sym w.0) (in_cone_has xs n a h k)))
        | inr r ↦ depends a b k r e
      ]

module _ (m : Machine) where
  -- the computed cone is the least set, over the whole list
  pub cone_of_is : (n : ℕ) (zs : List (Entry m)) (z : Entry m) → Distinct (map (number m) zs) → Has zs z → z.number ≡ n → (x : Entry m) → Has (cone_of m n zs) x ↔ InCone (clash m) zs z x
  cone_of_is n [] z d h e x = absurd h
  cone_of_is n (y ∷ zs) z d h e x = elim (either (nat_eq y.number n)) [
    | inl t ↦
        let same_one : y ≡ z = one_image (number m) (y ∷ zs) d y z (inl refl) h (eqb-true y.number n t ∙ sym e) in
        let c = Cones.cone_is (clash m) y zs (distinct_of_map (number m) (y ∷ zs) d) x in
        let is : cone_of m n (y ∷ zs) ≡ y ∷ cone (clash m) (y ∷ []) zs = ap (λ b. cond b (y ∷ cone (clash m) (y ∷ []) zs) (cone_of m n zs)) t in (
          λ k. subst (λ w. InCone (clash m) (y ∷ zs) w x) same_one (c.0 (subst (λ us. Has us x) is k)),
          λ k. subst (λ us. Has us x) (sym is) (c.1 (subst (λ w. InCone (clash m) (y ∷ zs) w x) (sym same_one) k)),
        )
    | inr t ↦
        let behind_it : Has zs z = elim h [ inl p ↦ absurd (true≢false (sym (eq-eqb y.number n (ap (number m) p ∙ e)) ∙ t)) | inr r ↦ r ] in
        let c = cone_of_is n zs z d.1 behind_it e x in
        let is : cone_of m n (y ∷ zs) ≡ cone_of m n zs = ap (λ b. cond b (y ∷ cone (clash m) (y ∷ []) zs) (cone_of m n zs)) t in (
          λ k. weaker (clash m) y zs z x (c.0 (subst (λ us. Has us x) is k)),
          λ k. subst (λ us. Has us x) (sym is) (c.1 (stronger (clash m) y zs z x (λ w. d.0 (has_map (number m) zs y w)) behind_it k)),
        )
  ]

module _ (m : Machine) (l : IsLocal m) where
  -- and without it the list is a run
  pub rest_run : (n : ℕ) (s : m.State) (zs : List (Entry m)) → IsRun m s zs → IsRun m s (rest_of m n zs)
  rest_run n s [] h = tt
  rest_run n s (z ∷ zs) h = elim (either (nat_eq z.number n)) [
    | inl t ↦ subst (IsRun m s) (sym (ap (λ b. cond b (outside (clash m) (z ∷ []) zs) (z ∷ rest_of m n zs)) t)) (Cones.cone_removed m l s z zs h)
    | inr t ↦ subst (IsRun m s) (sym (ap (λ b. cond b (outside (clash m) (z ∷ []) zs) (z ∷ rest_of m n zs)) t)) (h.0, h.1, rest_run n (m.after s z.event) zs h.2)
  ]

-- the cone's numbers rise
module _ (m : Machine) where
  cone_rises : (cs zs : List (Entry m)) → Rises m zs → Rises m (cone (clash m) cs zs)
  cone_rises cs [] h = tt
  cone_rises cs (z ∷ zs) h = elim (either (any_conflict (clash m) cs z)) [
    | inl t ↦ subst (Rises m) (sym (Cones.cone_in (clash m) cs z zs t)) (λ y k. h.0 y (Cones.cone_within (clash m) (z ∷ cs) zs y k), cone_rises (z ∷ cs) zs h.1)
    | inr t ↦ subst (Rises m) (sym (Cones.cone_out (clash m) cs z zs t)) (cone_rises cs zs h.1)
  ]

  pub cone_of_rises : (n : ℕ) (s : m.State) (kept : List (ℕ × m.Event)) → IsRising kept → Rises m (cone_of m n (entries m s kept))
  cone_of_rises n s kept h = go (entries m s kept) (rises m s kept h)
    where
      go : (zs : List (Entry m)) → Rises m zs → Rises m (cone_of m n zs)
      go [] r = tt
      go (z ∷ zs) r = elim (either (nat_eq z.number n)) [
        | inl t ↦ subst (Rises m) (sym (ap (λ b. cond b (z ∷ cone (clash m) (z ∷ []) zs) (cone_of m n zs)) t)) (λ y k. r.0 y (Cones.cone_within (clash m) (z ∷ []) zs y k), cone_rises (z ∷ []) zs r.1)
        | inr t ↦ subst (Rises m) (sym (ap (λ b. cond b (z ∷ cone (clash m) (z ∷ []) zs) (cone_of m n zs)) t)) (go zs r.1)
      ]
