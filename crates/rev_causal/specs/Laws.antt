-- The laws of undo, redo, cones and equivalent histories, each as one type over a machine or a table.
use Rattle.std.specs.Prelude.{◌≡◌, ℕ, ◌<◌, ◌≤◌, Bool, true, false, List, [], ◌∷◌, ◌++◌, ◌↔◌, ◌⊎◌, map}
use Rattle.std.specs.declared.cmp.Ordering.{Ordering}
use Rattle.std.specs.declared.option.Option.{Option}
use Rattle.std.specs.declared.option.Option.TheVariants.{None, Some}
use Rattle.std.specs.FinMap.{FinMap}
use Rattle.rev_causal.specs.Machine.{Machine, Accepts, Legal, run, footprints, NoneConflicts, Removed, Placed, Exchanged}
use Rattle.rev_causal.specs.Order.{Has, Stands, Distinct, InCone}
use Rattle.rev_causal.specs.Entries.{Entry, entries, events, clash, SwapEquivalent, Swaps}
use Rattle.rev_causal.specs.History.{IsRising, event_at, without, put, nearest_to, nearest_above, Undone, Redone, cone_of, rest_of, footprints_by_number}
use Rattle.rev_causal.specs.Store.{Footprint, is_whole, is_written, is_accessed, conflict, Table, machine_of, set_cells, replaced, replaced_by_number}

-- CONFLICT
module _ {K : Type 0} (R : K → K → Ordering) where
  -- Two footprints conflict exactly where one is whole, or a cell that one writes is read or written by the other.
  abbrev pub ConflictIsExact : Type 0
  ConflictIsExact = (f g : Footprint K) → (conflict R f g ≡ true) ↔ (
      (is_whole f ≡ true) ⊎ (is_whole g ≡ true) ⊎
      ((k : K) × (is_written R f k ≡ true) × (is_accessed R g k ≡ true)) ⊎
      ((k : K) × (is_accessed R f k ≡ true) × (is_written R g k ≡ true))
      )

-- EXCHANGE, REMOVAL AND PLACE
module _ (m : Machine) where
  -- Two neighbours that do not conflict can change places: both are accepted, each with the footprint that it had,
  -- and they lead to the same state.
  abbrev pub NeighboursExchange : Type 0
  NeighboursExchange =
      (s : m.State) (a b : m.Event) → Accepts m s a → Accepts m (m.after s a) b
      → m.conflict (m.footprint s a) (m.footprint (m.after s a) b) ≡ false → Exchanged m s a b

  -- The first event of a legal list can be taken out where no later one conflicts with it: the later ones are legal
  -- without it and have the footprints that they had, its cells have the values from before it, and all others those
  -- from the end of the list.
  abbrev pub Removal : Type 0
  Removal =
      (s : m.State) (n : m.Event) (es : List (ℕ × m.Event)) → Accepts m s n → Legal m (m.after s n) es
      → NoneConflicts m (m.footprint s n) (footprints m (m.after s n) es) → Removed m s n es

  -- An event that is accepted at the end of a legal list, and conflicts there with none of it, can as well stand in
  -- front of the list: each has the footprint that it had, and the result is the same.
  abbrev pub Place : Type 0
  Place =
      (s : m.State) (n : m.Event) (es : List (ℕ × m.Event)) → Legal m s es → Accepts m (run m s es) n
      → NoneConflicts m (m.footprint (run m s es) n) (footprints m s es) → Placed m s n es

-- UNDO, REDO AND BACK, BY NUMBER
module _ (m : Machine) where
  -- A kept event on which no other depends can be undone: the others are legal without it, its cells have the values
  -- from before it, and all other cells keep theirs.
  abbrev pub UndoOfFree : Type 0
  UndoOfFree =
      (s : m.State) (n : ℕ) (e : m.Event) (kept : List (ℕ × m.Event)) → IsRising kept → Legal m s kept
      → event_at n kept ≡ Some e → nearest_to m n (entries m s kept) ≡ None → Undone m s kept n e

  -- An event that is not kept, is accepted now, and conflicts there with no kept event above its number, can be put
  -- back at its number's place: the list is legal, and its result is that of the event now.
  abbrev pub RedoAtItsPlace : Type 0
  RedoAtItsPlace =
      (s : m.State) (n : ℕ) (e : m.Event) (kept : List (ℕ × m.Event)) → IsRising kept → Legal m s kept
      → event_at n kept ≡ None → Accepts m (run m s kept) e
      → nearest_above m n (m.footprint (run m s kept) e) (entries m s kept) ≡ None → Redone m s kept n e

  -- what a redo right after an undo meets, and what it leaves
  pub record RedoneNext (s : m.State) (kept : List (ℕ × m.Event)) (n : ℕ) (e : m.Event) : Type 0 where
    pub missing : event_at n (without n kept) ≡ None
    pub accepted : Accepts m (run m s (without n kept)) e
    pub nothing_in_the_way : nearest_above m n (m.footprint (run m s (without n kept)) e) (entries m s (without n kept))
        ≡ None
    pub same_list : put n e (without n kept) ≡ kept
    pub same_state : m.after (run m s (without n kept)) e ≡ run m s kept

  -- A redo right after an undo is not refused, and restores the list and the state.
  abbrev pub RedoNextRestores : Type 0
  RedoNextRestores =
      (s : m.State) (n : ℕ) (e : m.Event) (kept : List (ℕ × m.Event)) → IsRising kept → Legal m s kept
      → event_at n kept ≡ Some e → nearest_to m n (entries m s kept) ≡ None → RedoneNext s kept n e

  -- Undo and redo leave the numbers rising, and after a redo the event is kept under its number.
  abbrev pub UndoRises : Type 0
  UndoRises =
      (n : ℕ) (kept : List (ℕ × m.Event)) → IsRising kept
      → IsRising (without n kept) × (event_at n (without n kept) ≡ None)

  abbrev pub RedoRises : Type 0
  RedoRises =
      (n : ℕ) (e : m.Event) (kept : List (ℕ × m.Event)) → IsRising kept → event_at n kept ≡ None
      → IsRising (put n e kept) × (event_at n (put n e kept) ≡ Some e)

  -- On the greatest kept number no other depends, so that it can always be undone, and what is left is the list before
  -- it.
  abbrev pub GreatestIsFree : Type 0
  GreatestIsFree =
      (s : m.State) (n : ℕ) (e : m.Event) (kept : List (ℕ × m.Event)) → IsRising (kept ++ (n, e) ∷ [])
      → (nearest_to m n (entries m s (kept ++ (n, e) ∷ [])) ≡ None) × (without n (kept ++ (n, e) ∷ []) ≡ kept)

  -- Undo changes no other event's footprint, and neither does redo.
  abbrev pub UndoKeepsFootprints : Type 0
  UndoKeepsFootprints =
      (s : m.State) (n : ℕ) (e : m.Event) (kept : List (ℕ × m.Event)) → IsRising kept → Legal m s kept
      → event_at n kept ≡ Some e → nearest_to m n (entries m s kept) ≡ None →
      footprints_by_number m s (without n kept) ≡ without n (footprints_by_number m s kept)

  abbrev pub RedoKeepsFootprints : Type 0
  RedoKeepsFootprints =
      (s : m.State) (n : ℕ) (e : m.Event) (kept : List (ℕ × m.Event)) → IsRising kept → Legal m s kept
      → event_at n kept ≡ None → Accepts m (run m s kept) e
      → nearest_above m n (m.footprint (run m s kept) e) (entries m s kept) ≡ None →
      footprints_by_number m s (put n e kept) ≡ put n (m.footprint (run m s kept) e) (footprints_by_number m s kept)

-- WHAT STANDS IN THE WAY
module _ (m : Machine) where
  -- k is the least later number whose event conflicts with n's
  pub record IsLeastDependent (s : m.State) (kept : List (ℕ × m.Event)) (n : ℕ) (k : ℕ) : Type 0 where
    pub one : Entry m
    pub other : Entry m
    pub of_n : one.number ≡ n
    pub of_k : other.number ≡ k
    pub later : Stands one other (entries m s kept)
    pub conflicts : clash m one other ≡ true
    pub least : (z : Entry m) → Stands one z (entries m s kept) → clash m one z ≡ true → k ≤ z.number

  -- What a refused undo names is the least later number whose event depends on that one.
  abbrev pub NearestIsLeast : Type 0
  NearestIsLeast =
      (s : m.State) (n : ℕ) (e : m.Event) (kept : List (ℕ × m.Event)) (k : ℕ) → IsRising kept → event_at n kept ≡ Some e
      → nearest_to m n (entries m s kept) ≡ Some k → IsLeastDependent s kept n k

  -- It names none exactly where no later event depends on that one.
  abbrev pub NearestIsNone : Type 0
  NearestIsNone =
      (s : m.State) (n : ℕ) (e : m.Event) (kept : List (ℕ × m.Event)) → IsRising kept → event_at n kept ≡ Some e →
      (nearest_to m n (entries m s kept) ≡ None)
      ↔ ((one other : Entry m) → one.number ≡ n → Stands one other (entries m s kept) → clash m one other ≡ true
      → ⊥)

  -- k is the least kept number above n whose event conflicts with the footprint
  pub record IsLeastInTheWay (s : m.State) (kept : List (ℕ × m.Event)) (n : ℕ) (f : m.Footprint) (k : ℕ) : Type 0 where
    pub other : Entry m
    pub kept_there : Has (entries m s kept) other
    pub of_k : other.number ≡ k
    pub above : n < k
    pub conflicts : m.conflict f other.footprint ≡ true
    pub least : (z : Entry m) → Has (entries m s kept) z → n < z.number → m.conflict f z.footprint ≡ true → k ≤ z.number

  -- What a refused redo names is the least kept number above its own whose event conflicts with the footprint.
  abbrev pub FirstAboveIsLeast : Type 0
  FirstAboveIsLeast =
      (s : m.State) (n : ℕ) (f : m.Footprint) (kept : List (ℕ × m.Event)) (k : ℕ) → IsRising kept
      → nearest_above m n f (entries m s kept) ≡ Some k → IsLeastInTheWay s kept n f k

  -- It names none exactly where no kept event above that number conflicts.
  abbrev pub FirstAboveIsNone : Type 0
  FirstAboveIsNone = (s : m.State) (n : ℕ) (f : m.Footprint) (kept : List (ℕ × m.Event)) →
      (nearest_above m n f (entries m s kept) ≡ None)
      ↔ ((z : Entry m) → Has (entries m s kept) z → n < z.number → m.conflict f z.footprint ≡ true → ⊥)

-- THE CONE
module _ (m : Machine) where
  -- what the cone of a kept number is, and what it leaves
  pub record IsLeastCone (s : m.State) (kept : List (ℕ × m.Event)) (n : ℕ) : Type 0 where
    -- its members are exactly the least set that holds n's event and each that depends on a member
    pub members : (one : Entry m) → Has (entries m s kept) one → one.number ≡ n → (z : Entry m)
        → Has (cone_of m n (entries m s kept)) z ↔ InCone (clash m) (entries m s kept) one z
    -- their numbers rise
    pub rises : IsRising (events m (cone_of m n (entries m s kept)))
    -- the rest is exactly what is kept and no member, in rising number too
    pub others : (z : Entry m)
        → Has (rest_of m n (entries m s kept)) z
        ↔ (Has (entries m s kept) z × (Has (cone_of m n (entries m s kept)) z → ⊥))
    pub others_rise : IsRising (events m (rest_of m n (entries m s kept)))
    -- and it is legal, each with the footprint that it had
    pub legal : Legal m s (events m (rest_of m n (entries m s kept)))
    pub same_footprints : entries m s (events m (rest_of m n (entries m s kept))) ≡ rest_of m n (entries m s kept)

  -- The cone of a kept event is exactly the least set, in rising order, and without it the list is legal.
  abbrev pub ConeIsLeast : Type 0
  ConeIsLeast =
      (s : m.State) (n : ℕ) (e : m.Event) (kept : List (ℕ × m.Event)) → IsRising kept → Legal m s kept
      → event_at n kept ≡ Some e → IsLeastCone s kept n

  -- Every set that holds an event and each that depends on a member has the event's cone in it.
  abbrev pub ConeIsWithin : Type 0
  ConeIsWithin =
      (s : m.State) (kept : List (ℕ × m.Event)) (member : Entry m → Bool) (one : Entry m) → member one ≡ true →
      ((a b : Entry m) → member a ≡ true → Stands a b (entries m s kept) → clash m a b ≡ true → member b ≡ true) →
      (z : Entry m) → InCone (clash m) (entries m s kept) one z → member z ≡ true

  -- what the greatest member of a cone meets, and what it leaves
  pub record IsTakenFirst (s : m.State) (kept : List (ℕ × m.Event)) (n : ℕ) (front : List (Entry m)) (z : Entry m) : Type 0 where
    -- no event depends on it
    pub free : nearest_to m z.number (entries m s kept) ≡ None
    -- without it the cone of n has the other members, and what is outside is as before
    pub cone_without : cone_of m n (entries m s (without z.number kept)) ≡ front
    pub rest_without : rest_of m n (entries m s (without z.number kept)) ≡ rest_of m n (entries m s kept)

  -- A cone can be taken out member by member, from the greatest down to the event itself.
  abbrev pub ConeComesDown : Type 0
  ConeComesDown =
      (s : m.State) (n : ℕ) (kept : List (ℕ × m.Event)) (front : List (Entry m)) (z : Entry m) → IsRising kept
      → Legal m s kept → cone_of m n (entries m s kept) ≡ front ++ z ∷ [] → IsTakenFirst s kept n front z

-- EQUIVALENT LISTS
module _ (m : Machine) where
  -- Exchanges within legal lists, with footprints taken at their places, and exchanges of entries lead equally far.
  abbrev pub BothFormsAgree : Type 0
  BothFormsAgree =
      (s : m.State) (xs ys : List (ℕ × m.Event)) → Legal m s xs → Swaps m s xs ys ↔ SwapEquivalent m s xs ys

  -- Swap-equivalent lists have the same result,
  abbrev pub SameResult : Type 0
  SameResult = (s : m.State) (xs ys : List (ℕ × m.Event)) → SwapEquivalent m s xs ys → run m s ys ≡ run m s xs

  -- and hence the same refusal of every further event,
  abbrev pub SameRefusals : Type 0
  SameRefusals =
      (s : m.State) (xs ys : List (ℕ × m.Event)) → SwapEquivalent m s xs ys → (e : m.Event)
      → m.refusal (run m s ys) e ≡ m.refusal (run m s xs) e

  -- and each event has the same footprint in both.
  abbrev pub SameEntries : Type 0
  SameEntries =
      (s : m.State) (xs ys : List (ℕ × m.Event)) → SwapEquivalent m s xs ys → (z : Entry m)
      → Has (entries m s xs) z ↔ Has (entries m s ys) z

  -- No event depends on n's exactly where some swap-equivalent list ends in n's.
  abbrev pub FreeExactlyWhereLast : Type 0
  FreeExactlyWhereLast =
      (s : m.State) (n : ℕ) (e : m.Event) (kept : List (ℕ × m.Event)) → IsRising kept → Legal m s kept
      → event_at n kept ≡ Some e →
      (nearest_to m n (entries m s kept) ≡ None)
      ↔ ((ys : List (ℕ × m.Event)) × SwapEquivalent m s kept (ys ++ (n, e) ∷ []))

  -- no two that conflict in the first list stand the other way round in the second
  abbrev pub NoPairInverted : m.State → List (ℕ × m.Event) → List (ℕ × m.Event) → Type 0
  NoPairInverted s xs ys =
      (a b : Entry m) → clash m a b ≡ true → Stands a b (entries m s xs)
      → Stands (b.number, b.event) (a.number, a.event) ys → ⊥

  -- Two lists of the same numbered events, of which the first is legal, are swap-equivalent exactly where no two that
  -- conflict are inverted. Only the first one's footprints are looked at, and the second need not be known to be legal.
  abbrev pub SameExactlyWhereNoneInverted : Type 0
  SameExactlyWhereNoneInverted =
      (s : m.State) (xs ys : List (ℕ × m.Event)) → Legal m s xs → IsRising xs
      → Distinct (map (λ (y : ℕ × m.Event). y.0) ys) → ((x : ℕ × m.Event) → Has xs x ↔ Has ys x) →
      SwapEquivalent m s xs ys ↔ NoPairInverted s xs ys

-- REPLACED VALUES
module _ {K V E F : Type 0} {R : K → K → Ordering} (t : Table K V E F R) where
  -- Undo of an event on which no other depends changes what no other event replaced.
  abbrev pub UndoKeepsReplaced : Type 0
  UndoKeepsReplaced =
      (s : FinMap R V) (n : ℕ) (e : E) (kept : List (ℕ × E)) → IsRising kept → Legal (machine_of t) s kept
      → event_at n kept ≡ Some e → nearest_to (machine_of t) n (entries (machine_of t) s kept) ≡ None →
      replaced_by_number t s (without n kept) ≡ without n (replaced_by_number t s kept)

  -- Redo changes it neither, and what the event replaces at its place is what it replaces now.
  abbrev pub RedoKeepsReplaced : Type 0
  RedoKeepsReplaced =
      (s : FinMap R V) (n : ℕ) (e : E) (kept : List (ℕ × E)) → IsRising kept → Legal (machine_of t) s kept
      → event_at n kept ≡ None → Accepts (machine_of t) (run (machine_of t) s kept) e →
      nearest_above (machine_of t) n (t.footprint (run (machine_of t) s kept) e) (entries (machine_of t) s kept) ≡ None
      →
      replaced_by_number t s (put n e kept)
      ≡ put n (replaced (run (machine_of t) s kept) (t.effect (run (machine_of t) s kept) e))
      (replaced_by_number t s kept)

  -- Undo leaves the state in which what the event replaced is put back, and nothing else.
  abbrev pub UndoPutsBack : Type 0
  UndoPutsBack =
      (s : FinMap R V) (n : ℕ) (e : E) (kept : List (ℕ × E)) (ws : List (K × Option V)) → IsRising kept
      → Legal (machine_of t) s kept → event_at n kept ≡ Some e
      → nearest_to (machine_of t) n (entries (machine_of t) s kept) ≡ None →
      event_at n (replaced_by_number t s kept) ≡ Some ws
      → run (machine_of t) s (without n kept) ≡ set_cells R (run (machine_of t) s kept) ws

  -- An event and then what it replaced: the state is as before.
  abbrev pub StepBack : Type 0
  StepBack = (s : FinMap R V) (e : E) → set_cells R (set_cells R s (t.effect s e)) (replaced s (t.effect s e)) ≡ s
