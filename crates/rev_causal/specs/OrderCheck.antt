-- Whether two histories of the same events are equivalent, and if not, the first two events that stand the other way
-- round.
use Rattle.std.specs.Prelude.{◌≡◌, ℕ, ◌<◌, ◌≤◌, Bool, true, false, cond, List, [], ◌∷◌, ◌||◌, ◌&&◌, ◌↔◌, ◌⊎◌, map, nat_eq, option_map}
use Rattle.std.specs.List.{list_any, count_by}
use Rattle.std.specs.declared.option.Option.{Option}
use Rattle.std.specs.declared.option.Option.TheVariants.{None, Some}
use Rattle.rev_causal.specs.Machine.{Machine, Accepts, Legal}
use Rattle.rev_causal.specs.Order.{Has, Stands, Distinct}
use Rattle.rev_causal.specs.Entries.{Entry, entries, clash, SwapEquivalent}
use Rattle.rev_causal.specs.History.{IsRising, without}
use Rattle.rev_causal.specs.Laws.{NoPairInverted}
use Rattle.rev_causal.specs.Store.{Table, is_whole, is_written, conflict}
use Rattle.std.specs.FinMap.{FinMap}
use Rattle.std.specs.declared.cmp.Ordering.{Ordering}

-- a test that tells whether two events are equal
pub record IsEquality {E : Type 0} (same : E → E → Bool) : Type 0 where
  pub itself : (a : E) → same a a ≡ true
  pub equal : (a b : E) → same a b ≡ true → a ≡ b

-- MATCHING BY OCCURRENCE
module _ {E : Type 0} where
  abbrev pub number_in : ℕ × E → ℕ
  number_in x = x.0

  -- the events without their numbers
  abbrev pub bare : List (ℕ × E) → List E
  bare [] = []
  bare (x ∷ xs) = x.1 ∷ bare xs

  -- `other` has the numbered events of `first`, and equal events in the same order: the first of them here has the
  -- number of the first of them there, the second that of the second, and so on
  pub record IsMatched (first other : List (ℕ × E)) : Type 0 where
    pub same : (x : ℕ × E) → Has first x ↔ Has other x
    pub once : Distinct (map number_in other)
    pub in_turn : (a b : ℕ × E) → a.1 ≡ b.1 → Stands a b other → Stands a b first

-- what follows where a number was found, and None where none was
abbrev pub where_found : {A : Type 0} → Option ℕ → (ℕ → Option A) → Option A
where_found None next = None
where_found (Some n) next = next n

-- the list of no event, where all have been matched
abbrev pub none_left : {A : Type 0} → List A → Option (List A)
none_left [] = Some []
none_left (x ∷ xs) = None

module _ {E : Type 0} (same : E → E → Bool) where
  -- the same events, each as often
  abbrev pub SameEvents : List E → List E → Type 0
  SameEvents xs ys = (e : E) → count_by (same e) xs ≡ count_by (same e) ys

  -- the number of the first event that is equal to e
  abbrev pub first_of : E → List (ℕ × E) → Option ℕ
  first_of e [] = None
  first_of e (x ∷ xs) = cond (same e x.1) (Some x.0) (first_of e xs)

  -- the events of `ys`, each with the first number of an equal event of `xs` that no earlier one has;
  -- None where one finds none, or some of `xs` are left
  abbrev pub renumbered : List (ℕ × E) → List E → Option (List (ℕ × E))
  renumbered xs [] = none_left xs
  renumbered xs (y ∷ ys) =
      where_found (first_of y xs) (λ n. option_map (λ zs. (n, y) ∷ zs) (renumbered (without n xs) ys))

-- THE FIRST PAIR THAT IS INVERTED
-- whether n stands before k
abbrev pub stands_before : ℕ → ℕ → List ℕ → Bool
stands_before n k [] = false
stands_before n k (x ∷ xs) = (nat_eq x n && list_any (λ y. nat_eq y k) xs) || stands_before n k xs

module _ (m : Machine) where
  -- the number of the first of `zs` that conflicts with a and stands before it in the other list
  abbrev pub first_inverted : Entry m → List (Entry m) → List ℕ → Option ℕ
  first_inverted a [] other = None
  first_inverted a (b ∷ zs) other =
      cond (clash m a b && stands_before b.number a.number other) (Some b.number) (first_inverted a zs other)

  abbrev pub paired : ℕ → Option ℕ → Option (ℕ × ℕ) → Option (ℕ × ℕ)
  paired i None further = further
  paired i (Some j) further = Some (i, j)

  -- the first two that conflict and stand the other way round in the other list: the least first, then the least second
  abbrev pub least_inverted : List (Entry m) → List ℕ → Option (ℕ × ℕ)
  least_inverted [] other = None
  least_inverted (a ∷ zs) other = paired a.number (first_inverted a zs other) (least_inverted zs other)

  -- i stands before j in the first list and they conflict there, j stands before i in the other, and of all such pairs
  -- this has the least i, and among those the least j
  pub record IsLeastInverted (s : m.State) (first other : List (ℕ × m.Event)) (i j : ℕ) : Type 0 where
    pub one : Entry m
    pub later : Entry m
    pub of_i : one.number ≡ i
    pub of_j : later.number ≡ j
    pub here : Stands one later (entries m s first)
    pub conflicts : clash m one later ≡ true
    pub inverted : Stands (later.number, later.event) (one.number, one.event) other
    pub least : (a b : Entry m) → Stands a b (entries m s first) → clash m a b ≡ true
        → Stands (b.number, b.event) (a.number, a.event) other → (i < a.number) ⊎ ((i ≡ a.number) × (j ≤ b.number))

-- THE ANSWER
-- what the order check answers
pub data OrderAnswer : Type 0 where
  -- the events differ, or how often one stands
  EventsDiffer : OrderAnswer
  -- the lists are equivalent
  SameOrder : OrderAnswer
  -- the first two that conflict and stand the other way round
  Inverted : (i j : ℕ) → OrderAnswer

abbrev pub pair_answer : Option (ℕ × ℕ) → OrderAnswer
pair_answer None = SameOrder
pair_answer (Some p) = Inverted p.0 p.1

module _ (m : Machine) where
  abbrev pub matched_answer : m.State → List (ℕ × m.Event) → Option (List (ℕ × m.Event)) → OrderAnswer
  matched_answer s first None = EventsDiffer
  matched_answer s first (Some other) = pair_answer (least_inverted m (entries m s first) (map number_in other))

  abbrev pub order_check : (m.Event → m.Event → Bool) → m.State → List (ℕ × m.Event) → List m.Event → OrderAnswer
  order_check same s first events = matched_answer s first (renumbered same first events)

-- EQUAL EVENTS
module _ {K V E F : Type 0} {R : K → K → Ordering} (t : Table K V E F R) where
  -- Two equal events that are whole, or write a common cell, conflict, whatever states they stand in.
  abbrev pub EqualWritersConflict : Type 0
  EqualWritersConflict = (s u : FinMap R V) (e : E) →
      (is_whole (t.footprint s e) ≡ true) ⊎ (is_whole (t.footprint u e) ≡ true)
      ⊎ ((k : K) × (is_written R (t.footprint s e) k ≡ true) × (is_written R (t.footprint u e) k ≡ true)) →
      conflict R (t.footprint s e) (t.footprint u e) ≡ true

  -- wherever the event is accepted it is whole, or wherever it is accepted it writes one and the same cell
  abbrev pub AlwaysWrites : E → Type 0
  AlwaysWrites e =
      ((s : FinMap R V) → t.refusal s e ≡ None → is_whole (t.footprint s e) ≡ true)
      ⊎ ((k : K) × ((s : FinMap R V) → t.refusal s e ≡ None → is_written R (t.footprint s e) k ≡ true))

-- ITS LAWS
module _ {E : Type 0} (same : E → E → Bool) where
  -- The renumbered list is exactly the one that is matched by occurrence and has those events.
  abbrev pub MatchingIsExact : Type 0
  MatchingIsExact =
      (first : List (ℕ × E)) (ys : List E) (other : List (ℕ × E)) → IsRising first
      → (renumbered same first ys ≡ Some other) ↔ (IsMatched first other × (bare other ≡ ys))

  -- There is none exactly where the events differ, or how often one stands.
  abbrev pub NoMatchingWhereEventsDiffer : Type 0
  NoMatchingWhereEventsDiffer =
      (first : List (ℕ × E)) (ys : List E) → IsRising first
      → (renumbered same first ys ≡ None) ↔ (SameEvents same (bare first) ys → ⊥)

module _ (m : Machine) where
  -- Two equal events conflict, wherever they are accepted: so it is where each event always writes one cell or is
  -- whole.
  abbrev pub EqualEventsConflict : Type 0
  EqualEventsConflict =
      (s t : m.State) (e : m.Event) → Accepts m s e → Accepts m t e
      → m.conflict (m.footprint s e) (m.footprint t e) ≡ true

  -- So every equivalent list is matched by occurrence: no other way to match equal events gives one.
  abbrev pub MatchingIsTheOnlyOne : Type 0
  MatchingIsTheOnlyOne =
      (s : m.State) (first other : List (ℕ × m.Event)) → IsRising first → SwapEquivalent m s first other
      → IsMatched first other

  -- A matched list is equivalent exactly where no two that conflict stand the other way round.
  abbrev pub MatchedExactlyWhereNoneInverted : Type 0
  MatchedExactlyWhereNoneInverted =
      (s : m.State) (first other : List (ℕ × m.Event)) → Legal m s first → IsRising first → IsMatched first other
      → SwapEquivalent m s first other ↔ NoPairInverted m s first other

  -- what the order check says of events
  pub record IsOrderAnswer (same : m.Event → m.Event → Bool) (s : m.State) (first : List (ℕ × m.Event)) (events : List m.Event) : Type 0 where
    -- the events differ: exactly where they do, counted with repeats
    pub differ : (order_check m same s first events ≡ EventsDiffer) ↔ (SameEvents same (bare first) events → ⊥)
    -- the same: exactly where under some numbers these events are swap-equivalent to the first list
    pub same_order : (order_check m same s first events ≡ SameOrder)
        ↔ ((other : List (ℕ × m.Event)) × (bare other ≡ events) × SwapEquivalent m s first other)
    -- else the least pair that conflicts and is inverted
    pub inverted : (i j : ℕ) → order_check m same s first events ≡ Inverted i j
        → (other : List (ℕ × m.Event)) × IsMatched first other × (bare other ≡ events)
        × IsLeastInverted m s first other i j

  -- The order check answers exactly.
  abbrev pub OrderCheckIsExact : (m.Event → m.Event → Bool) → Type 0
  OrderCheckIsExact same =
      (s : m.State) (first : List (ℕ × m.Event)) (events : List m.Event) → Legal m s first → IsRising first
      → IsOrderAnswer same s first events
