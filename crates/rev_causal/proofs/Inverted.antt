-- The least pair that is inverted, and what the order check answers.
use Rattle.std.proofs.Common.{◌≡◌, ℕ, ◌<◌, ◌≤◌, Bool, true, false, cond, List, [], ◌∷◌, ◌||◌, ◌&&◌, map, sym, refl, ap, ap₂, subst, subst₂, ◌∙◌, ◌⊎◌, inl, inr, true≢false, ◌↔◌, eqb-true, eq-eqb, arith}
use Rattle.std.specs.List.{list_any}
use Rattle.std.specs.declared.option.Option.{Option}
use Rattle.std.specs.declared.option.Option.TheVariants.{None, Some}
use Rattle.std.specs.Prelude.{nat_eq}
use Rattle.rev_causal.specs.Machine.{Machine, IsLocal, Accepts, Legal}
use Rattle.rev_causal.specs.Order.{Has, Stands, Distinct}
use Rattle.rev_causal.specs.Entries.{Entry, entries, clash, SwapEquivalent}
use Rattle.rev_causal.specs.History.{IsRising}
use Rattle.rev_causal.specs.Laws.{NoPairInverted}
use Rattle.rev_causal.specs.OrderCheck.{IsEquality, number_in, bare, IsMatched, SameEvents, renumbered, stands_before, first_inverted, paired, least_inverted, IsLeastInverted, EventsDiffer, SameOrder, Inverted, pair_answer, matched_answer, order_check, EqualEventsConflict, MatchingIsTheOnlyOne, MatchedExactlyWhereNoneInverted, IsOrderAnswer, OrderCheckIsExact}
use Rattle.rev_causal.proofs.Runs.{either}
use Rattle.rev_causal.proofs.Order
use Rattle.rev_causal.proofs.Laws as laws
use Rattle.rev_causal.proofs.Occurrence as occurrence
use Rattle.rev_causal.proofs.Occurrence.{none_or}

or_cases : (a b : Bool) → (a || b) ≡ true → (a ≡ true) ⊎ (b ≡ true)
or_cases true b h = inl refl
or_cases false b h = inr h

or_right : (a b : Bool) → b ≡ true → (a || b) ≡ true
or_right true b h = refl
or_right false b h = h

and_both : (a b : Bool) → (a && b) ≡ true → (a ≡ true) × (b ≡ true)
and_both true b h = (refl, h)
and_both false b h = absurd (true≢false (sym h))

and_one : (a b : Bool) → (a && b) ≡ false → a ≡ true → b ≡ true → ⊥
and_one true b h k j = true≢false (sym j ∙ h)
and_one false b h k j = true≢false (sym k)

-- the test of the order of two numbers
has_number : (k : ℕ) (xs : List ℕ) → list_any (λ y. nat_eq y k) xs ≡ true → Has xs k
has_number k [] h = absurd (true≢false (sym h))
has_number k (x ∷ xs) h = elim (or_cases (nat_eq x k) (list_any (λ y. nat_eq y k) xs) h) [
  | inl p ↦ inl (eqb-true x k p)
  | inr r ↦ inr (has_number k xs r)
]

number_has : (k : ℕ) (xs : List ℕ) → Has xs k → list_any (λ y. nat_eq y k) xs ≡ true
number_has k [] h = absurd h
number_has k (x ∷ xs) h = elim h [
  | inl p ↦ ap (λ b. b || list_any (λ y. nat_eq y k) xs) (eq-eqb x k p)
  | inr r ↦ or_right (nat_eq x k) (list_any (λ y. nat_eq y k) xs) (number_has k xs r)
]

pub before_stands : (n k : ℕ) (xs : List ℕ) → stands_before n k xs ≡ true → Stands n k xs
before_stands n k [] h = absurd (true≢false (sym h))
before_stands n k (x ∷ xs) h = elim (or_cases (nat_eq x n && list_any (λ y. nat_eq y k) xs) (stands_before n k xs) h) [
  | inl p ↦
      let both : (nat_eq x n ≡ true) × (list_any (λ y. nat_eq y k) xs ≡ true) = and_both (nat_eq x n) (list_any (λ y. nat_eq y k) xs) p in
      inl (eqb-true x n both.0, has_number k xs both.1)
  | inr r ↦ inr (before_stands n k xs r)
]

pub stands_then : (n k : ℕ) (xs : List ℕ) → Stands n k xs → stands_before n k xs ≡ true
stands_then n k [] h = absurd h
stands_then n k (x ∷ xs) h = elim h [
  | inl w ↦ ap (λ b. b || stands_before n k xs) (ap (λ b. b && list_any (λ y. nat_eq y k) xs) (eq-eqb x n w.0) ∙ number_has k xs w.1)
  | inr r ↦ or_right (nat_eq x n && list_any (λ y. nat_eq y k) xs) (stands_before n k xs) (stands_then n k xs r)
]

module _ (m : Machine) (other : List ℕ) where
  -- a and b conflict, and b stands before a in the other list
  abbrev IsInverted : Entry m → Entry m → Type 0
  IsInverted a b = (clash m a b ≡ true) × (stands_before b.number a.number other ≡ true)

  record LeastWith (a : Entry m) (zs : List (Entry m)) (j : ℕ) : Type 0 where
    later : Entry m
    has : Has zs later
    of_j : later.number ≡ j
    is : IsInverted a later
    least : (b : Entry m) → Has zs b → IsInverted a b → j ≤ b.number

  abbrev FirstWith : Entry m → List (Entry m) → Option ℕ → Type 0
  FirstWith a zs None = (b : Entry m) → Has zs b → IsInverted a b → ⊥
  FirstWith a zs (Some j) = LeastWith a zs j

  -- behind an entry that is not inverted
  first_behind : (a y : Entry m) (zs : List (Entry m)) → (IsInverted a y → ⊥) → (o : Option ℕ) → FirstWith a zs o → FirstWith a (y ∷ zs) o
  first_behind a y zs out None n = λ b h w. elim h [ inl p ↦ out (subst (IsInverted a) (sym p) w) | inr r ↦ n b r w ]
  first_behind a y zs out (Some j) n = record {
    later = n.later;
    has = inr n.has;
    of_j = n.of_j;
    is = n.is;
    least = λ b h w. elim h [ inl p ↦ absurd (out (subst (IsInverted a) (sym p) w)) | inr r ↦ n.least b r w ];
  }

  first_inverted_is : (a : Entry m) (zs : List (Entry m)) → laws.Rises m zs → FirstWith a zs (first_inverted m a zs other)
  first_inverted_is a [] rise = λ b h w. absurd h
  first_inverted_is a (y ∷ zs) rise = elim (either (clash m a y && stands_before y.number a.number other)) [
    | inl t ↦ subst (λ b. FirstWith a (y ∷ zs) (cond b (Some y.number) (first_inverted m a zs other))) (sym t) (record {
      later = y;
      has = inl refl;
      of_j = refl;
      is = and_both (clash m a y) (stands_before y.number a.number other) t;
      least = λ b h w. elim h [
        | inl p ↦ let q : y.number ≡ b.number = ap (λ (u : Entry m). u.number) p in omega arith
        | inr r ↦ let q : y.number < b.number = rise.0 b r in omega arith
      ];
    })
    | inr f ↦ subst (λ b. FirstWith a (y ∷ zs) (cond b (Some y.number) (first_inverted m a zs other))) (sym f)
        (first_behind a y zs (λ w. and_one (clash m a y) (stands_before y.number a.number other) f w.0 w.1) (first_inverted m a zs other) (first_inverted_is a zs rise.1))
  ]

  record LeastPair (zs : List (Entry m)) (i j : ℕ) : Type 0 where
    one : Entry m
    later : Entry m
    of_i : one.number ≡ i
    of_j : later.number ≡ j
    here : Stands one later zs
    is : IsInverted one later
    least : (a b : Entry m) → Stands a b zs → IsInverted a b → (i < a.number) ⊎ ((i ≡ a.number) × (j ≤ b.number))

  abbrev PairIn : List (Entry m) → Option (ℕ × ℕ) → Type 0
  PairIn zs None = (a b : Entry m) → Stands a b zs → IsInverted a b → ⊥
  PairIn zs (Some p) = LeastPair zs p.0 p.1

  paired_is : (a : Entry m) (zs : List (Entry m)) → laws.Rises m (a ∷ zs) → (o : Option ℕ) (r : Option (ℕ × ℕ)) → FirstWith a zs o → PairIn zs r → PairIn (a ∷ zs) (paired m a.number o r)
  paired_is a zs rise None None f g = λ x y h w. elim h [ inl k ↦ f y k.1 (subst (λ z. IsInverted z y) (sym k.0) w) | inr k ↦ g x y k w ]
  paired_is a zs rise None (Some p) f g = record {
    one = g.one;
    later = g.later;
    of_i = g.of_i;
    of_j = g.of_j;
    here = inr g.here;
    is = g.is;
    least = λ x y h w. elim h [ inl k ↦ absurd (f y k.1 (subst (λ z. IsInverted z y) (sym k.0) w)) | inr k ↦ g.least x y k w ];
  }
  paired_is a zs rise (Some j) r f g = record {
    one = a;
    later = f.later;
    of_i = refl;
    of_j = f.of_j;
    here = inl (refl, f.has);
    is = f.is;
    least = λ x y h w. elim h [
      | inl k ↦ inr (ap (λ (z : Entry m). z.number) k.0, f.least y k.1 (subst (λ z. IsInverted z y) (sym k.0) w))
      | inr k ↦ inl (rise.0 x (Order.stands_has x y zs k).0)
    ];
  }

  least_inverted_is : (zs : List (Entry m)) → laws.Rises m zs → PairIn zs (least_inverted m zs other)
  least_inverted_is [] rise = λ a b h w. absurd h
  least_inverted_is (a ∷ zs) rise = paired_is a zs rise (first_inverted m a zs other) (least_inverted m zs other) (first_inverted_is a zs rise.1) (least_inverted_is zs rise.1)

-- of two elements of a list one is the other, or one stands first
one_first : {A : Type 0} (a b : A) (xs : List A) → Has xs a → Has xs b → (a ≡ b) ⊎ (Stands a b xs ⊎ Stands b a xs)
one_first a b [] h k = absurd h
one_first a b (x ∷ xs) h k = elim h [
  | inl p ↦ elim k [ inl r ↦ inl (sym p ∙ r) | inr r ↦ inr (inl (inl (p, r))) ]
  | inr r ↦ elim k [
    | inl p ↦ inr (inr (inl (p, r)))
    | inr s ↦ elim (one_first a b xs r s) [ inl e ↦ inl e | inr (inl f) ↦ inr (inl (inr f)) | inr (inr f) ↦ inr (inr (inr f)) ]
  ]
]

-- what stands before itself stands twice
not_twice : {A : Type 0} (a : A) (xs : List A) → Distinct xs → Stands a a xs → ⊥
not_twice a xs d h = Order.one_order a a xs d h h

module _ (m : Machine) where
  -- the numbered event of an entry
  abbrev pair : Entry m → ℕ × m.Event
  pair z = (z.number, z.event)

  -- an entry of a legal list has the footprint of a state that accepts its event
  record AtItsPlace (z : Entry m) : Type 0 where
    state : m.State
    accepted : Accepts m state z.event
    is : z.footprint ≡ m.footprint state z.event

  at_its_place : (s : m.State) (xs : List (ℕ × m.Event)) → Legal m s xs → (z : Entry m) → Has (entries m s xs) z → AtItsPlace z
  at_its_place s [] legal z h = absurd h
  at_its_place s (x ∷ xs) legal z h = elim h [
    | inl p ↦ subst AtItsPlace p (record { state = s; accepted = legal.0; is = refl })
    | inr r ↦ at_its_place (m.after s x.1) xs legal.1 z r
  ]

  -- entries of equal events conflict
  equal_clash : EqualEventsConflict m → (a b : Entry m) → AtItsPlace a → AtItsPlace b → a.event ≡ b.event → clash m a b ≡ true
  equal_clash same a b p q e = ap₂ m.conflict (p.is ∙ ap (m.footprint p.state) e) q.is ∙ same p.state q.state b.event (subst (Accepts m p.state) e p.accepted) q.accepted

module _ (m : Machine) (l : IsLocal m) where
  has_entry : (s : m.State) (xs : List (ℕ × m.Event)) (x : ℕ × m.Event) → Has xs x → (z : Entry m) × Has (entries m s xs) z × (pair m z ≡ x)
  has_entry = laws.has_entry m l

  entry_has : (s : m.State) (xs : List (ℕ × m.Event)) (z : Entry m) → Has (entries m s xs) z → Has xs (pair m z)
  entry_has s xs z h = subst (λ ys. Has ys (pair m z)) (laws.pairs_of m l s xs) (laws.has_map (pair m) (entries m s xs) z h)

  -- the numbers of an equivalent list
  numbers_apart : (s : m.State) (xs ys : List (ℕ × m.Event)) → IsRising xs → SwapEquivalent m s xs ys → Distinct (map (laws.number m) (entries m s ys))
  numbers_apart s xs ys rising w = (Order.distinct_kept laws.nothing_clashes (laws.mapped (clash m) (laws.number m) w.2)).0 (laws.rising_distinct m s xs rising)

  same_elements : (s : m.State) (xs ys : List (ℕ × m.Event)) → SwapEquivalent m s xs ys → (x : ℕ × m.Event) → Has xs x ↔ Has ys x
  same_elements s xs ys w x = (
    λ h. let z : (z : Entry m) × Has (entries m s xs) z × (pair m z ≡ x) = has_entry s xs x h in
        subst (Has ys) z.2 (entry_has s ys z.0 ((Order.has_kept (clash m) z.0 w.2).0 z.1)),
    λ h. let z : (z : Entry m) × Has (entries m s ys) z × (pair m z ≡ x) = has_entry s ys x h in
        subst (Has xs) z.2 (entry_has s xs z.0 ((Order.has_kept (clash m) z.0 w.2).1 z.1)),
  )

  -- two numbered events of a list as entries
  stands_entry : (s : m.State) (xs : List (ℕ × m.Event)) (a b : Entry m) → Distinct (map (laws.number m) (entries m s xs)) → Has (entries m s xs) a → Has (entries m s xs) b → Stands (pair m a) (pair m b) xs → Stands a b (entries m s xs)
  stands_entry s xs a b apart ha hb st =
      laws.stands_unmap (pair m) (entries m s xs) a b
      (λ x h e. laws.one_image (laws.number m) (entries m s xs) apart x a h ha (ap (λ (p : ℕ × m.Event). p.0) e))
      (λ x h e. laws.one_image (laws.number m) (entries m s xs) apart x b h hb (ap (λ (p : ℕ × m.Event). p.0) e))
      (subst (Stands (pair m a) (pair m b)) (sym (laws.pairs_of m l s xs)) st)

  entry_stands : (s : m.State) (xs : List (ℕ × m.Event)) (a b : Entry m) → Stands a b (entries m s xs) → Stands (pair m a) (pair m b) xs
  entry_stands s xs a b st = subst (Stands (pair m a) (pair m b)) (laws.pairs_of m l s xs) (laws.stands_map (pair m) (entries m s xs) a b st)

  -- equal events keep their order
  in_turn : EqualEventsConflict m → (s : m.State) (xs ys : List (ℕ × m.Event)) → IsRising xs → SwapEquivalent m s xs ys → (a b : ℕ × m.Event) → a.1 ≡ b.1 → Stands a b ys → Stands a b xs
  in_turn same s xs ys rising w a b e st =
      let two : Has ys a × Has ys b = Order.stands_has a b ys st in
      let apart : Distinct (map (laws.number m) (entries m s ys)) = numbers_apart s xs ys rising w in
      let each : Distinct ys = laws.distinct_of_map (λ (y : ℕ × m.Event). y.0) ys (subst Distinct (laws.numbers_are m l (entries m s ys) ∙ ap (map (λ (y : ℕ × m.Event). y.0)) (laws.pairs_of m l s ys)) apart) in
      elim (one_first a b xs ((same_elements s xs ys w a).1 two.0) ((same_elements s xs ys w b).1 two.1)) [
        | inl p ↦ absurd (not_twice b ys each (subst (λ x. Stands x b ys) p st))
        | inr (inl f) ↦ f
        | inr (inr f) ↦
            let za : (z : Entry m) × Has (entries m s xs) z × (pair m z ≡ a) = has_entry s xs a ((same_elements s xs ys w a).1 two.0) in
            let zb : (z : Entry m) × Has (entries m s xs) z × (pair m z ≡ b) = has_entry s xs b ((same_elements s xs ys w b).1 two.1) in
            let event : zb.0.event ≡ za.0.event = ap (λ (p : ℕ × m.Event). p.1) zb.2 ∙ sym e ∙ sym (ap (λ (p : ℕ × m.Event). p.1) za.2) in
            let conflict : clash m zb.0 za.0 ≡ true = equal_clash m same zb.0 za.0 (at_its_place m s xs w.0 zb.0 zb.1) (at_its_place m s xs w.0 za.0 za.1) event in
            let here : Stands zb.0 za.0 (entries m s xs) = stands_entry s xs zb.0 za.0 (laws.rising_distinct m s xs rising) zb.1 za.1 (subst₂ (λ x y. Stands x y xs) (sym zb.2) (sym za.2) f) in
            let there : Stands zb.0 za.0 (entries m s ys) = (Order.order_kept (clash m) (λ x y. l.both_ways x.footprint y.footprint) zb.0 za.0 conflict w.2).0 here in
            absurd (Order.one_order a b ys each st (subst₂ (λ x y. Stands x y ys) zb.2 za.2 (entry_stands s ys zb.0 za.0 there)))
      ]

  pub matching_is_the_only_one : EqualEventsConflict m → MatchingIsTheOnlyOne m
  matching_is_the_only_one same s first other rising w = record {
    same = same_elements s first other w;
    once = subst Distinct (laws.numbers_are m l (entries m s other) ∙ ap (map (λ (y : ℕ × m.Event). y.0)) (laws.pairs_of m l s other)) (numbers_apart s first other rising w);
    in_turn = in_turn same s first other rising w;
  }

  pub matched_exactly_where_none_inverted : MatchedExactlyWhereNoneInverted m
  matched_exactly_where_none_inverted s first other legal rising x = laws.same_exactly_where_none_inverted m l s first other legal rising x.once x.same

  -- by numbers and by events
  inverted_stands : (s : m.State) (first other : List (ℕ × m.Event)) → IsMatched first other → (a b : Entry m) → Has (entries m s first) a → Has (entries m s first) b → stands_before a.number b.number (map number_in other) ≡ true → Stands (pair m a) (pair m b) other
  inverted_stands s first other x a b ha hb h =
      laws.stands_unmap number_in other (pair m a) (pair m b)
      (λ y k e. laws.one_image number_in other x.once y (pair m a) k ((x.same (pair m a)).0 (entry_has s first a ha)) e)
      (λ y k e. laws.one_image number_in other x.once y (pair m b) k ((x.same (pair m b)).0 (entry_has s first b hb)) e)
      (before_stands a.number b.number (map number_in other) h)

  stands_inverted : (other : List (ℕ × m.Event)) (a b : Entry m) → Stands (pair m a) (pair m b) other → stands_before a.number b.number (map number_in other) ≡ true
  stands_inverted other a b h = stands_then a.number b.number (map number_in other) (laws.stands_map number_in other (pair m a) (pair m b) h)

  none_inverted : (s : m.State) (first other : List (ℕ × m.Event)) → IsMatched first other → PairIn m (map number_in other) (entries m s first) None → NoPairInverted m s first other
  none_inverted s first other x none a b c here there = none a b here (c, stands_inverted other b a there)

  least_pair : (s : m.State) (first other : List (ℕ × m.Event)) → IsMatched first other → (i j : ℕ) → LeastPair m (map number_in other) (entries m s first) i j → IsLeastInverted m s first other i j
  least_pair s first other x i j p =
      let two : Has (entries m s first) p.one × Has (entries m s first) p.later = Order.stands_has p.one p.later (entries m s first) p.here in
      record {
        one = p.one;
        later = p.later;
        of_i = p.of_i;
        of_j = p.of_j;
        here = p.here;
        conflicts = p.is.0;
        inverted = inverted_stands s first other x p.later p.one two.1 two.0 p.is.1;
        least = λ a b h c t. p.least a b h (c, stands_inverted other b a t);
      }

module _ (m : Machine) (l : IsLocal m) (always : EqualEventsConflict m) (same : m.Event → m.Event → Bool) (q : IsEquality same) where
  -- where the events differ
  differ_answer : (s : m.State) (first : List (ℕ × m.Event)) (events : List m.Event) → IsRising first → renumbered same first events ≡ None → IsOrderAnswer m same s first events
  differ_answer s first events rising none =
      let answer : order_check m same s first events ≡ EventsDiffer = ap (matched_answer m s first) none in
      record {
        differ = (λ h. (occurrence.no_matching_where_events_differ same q first events rising).0 none, λ h. answer);
        same_order = (
          λ h. let w : EventsDiffer ≡ SameOrder = sym answer ∙ h in absurd (cc),
          λ h.
              let w : None ≡ Some h.0 = sym none ∙ (occurrence.matching_is_exact same q first events h.0 rising).1 (matching_is_the_only_one m l always s first h.0 rising h.2, h.1) in
              absurd (cc),
        );
        inverted = λ i j h. let w : EventsDiffer ≡ Inverted i j = sym answer ∙ h in absurd (cc);
      }

  -- where a list is matched
  matched_is : (s : m.State) (first : List (ℕ × m.Event)) (events : List m.Event) (other : List (ℕ × m.Event)) → Legal m s first → IsRising first → IsMatched first other → bare other ≡ events → renumbered same first events ≡ Some other →
      (o : Option (ℕ × ℕ)) → least_inverted m (entries m s first) (map number_in other) ≡ o → PairIn m (map number_in other) (entries m s first) o → IsOrderAnswer m same s first events
  matched_is s first events other legal rising x is found None e none =
      let answer : order_check m same s first events ≡ SameOrder = ap (matched_answer m s first) found ∙ ap pair_answer e in
      let swap : SwapEquivalent m s first other = (matched_exactly_where_none_inverted m l s first other legal rising x).1 (none_inverted m l s first other x none) in
      record {
        differ = (
          λ h. let w : SameOrder ≡ EventsDiffer = sym answer ∙ h in absurd (cc),
          λ h. absurd (h (subst (SameEvents same (bare first)) is (occurrence.matched_counts same q first other (occurrence.rising_each first rising) x))),
        );
        same_order = (λ h. (other, is, swap), λ h. answer);
        inverted = λ i j h. let w : SameOrder ≡ Inverted i j = sym answer ∙ h in absurd (cc);
      }
  matched_is s first events other legal rising x is found (Some p) e pair =
      let answer : order_check m same s first events ≡ Inverted p.0 p.1 = ap (matched_answer m s first) found ∙ ap pair_answer e in
      let least : IsLeastInverted m s first other p.0 p.1 = least_pair m l s first other x p.0 p.1 pair in
      record {
        differ = (
          λ h. let w : Inverted p.0 p.1 ≡ EventsDiffer = sym answer ∙ h in absurd (cc),
          λ h. absurd (h (subst (SameEvents same (bare first)) is (occurrence.matched_counts same q first other (occurrence.rising_each first rising) x))),
        );
        same_order = (
          λ h. let w : Inverted p.0 p.1 ≡ SameOrder = sym answer ∙ h in absurd (cc),
          λ h.
              let one : h.0 ≡ other = occurrence.matched_once first h.0 other (occurrence.rising_each first rising) (matching_is_the_only_one m l always s first h.0 rising h.2) x (h.1 ∙ sym is) in
              let none : NoPairInverted m s first other = (matched_exactly_where_none_inverted m l s first other legal rising x).0 (subst (SwapEquivalent m s first) one h.2) in
              absurd (none least.one least.later least.conflicts least.here least.inverted),
        );
        inverted = λ i j h.
            let w : Inverted p.0 p.1 ≡ Inverted i j = sym answer ∙ h in
            let first_is : p.0 ≡ i = cc in
            let second_is : p.1 ≡ j = cc in
            (other, x, is, subst₂ (IsLeastInverted m s first other) first_is second_is least);
      }

  pub order_check_is_exact : OrderCheckIsExact m same
  order_check_is_exact s first events legal rising = elim (none_or (renumbered same first events)) [
    | inl none ↦ differ_answer s first events rising none
    | inr found ↦
        let x : IsMatched first found.0 × (bare found.0 ≡ events) = occurrence.renumbered_is same q events first found.0 rising found.1 in
        matched_is s first events found.0 legal rising x.0 x.1 found.1 (least_inverted m (entries m s first) (map number_in found.0)) refl (least_inverted_is m (map number_in found.0) (entries m s first) (laws.rises m s first rising))
  ]
