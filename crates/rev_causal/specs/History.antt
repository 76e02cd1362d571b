-- A history's changes by number: undo, redo, what stands in their way, and the cone.
use Rattle.std.specs.Prelude.{◌≡◌, ℕ, ◌<◌, cond, List, [], ◌∷◌, nat_eq, nat_lt}
use Rattle.std.specs.List.{AllByRecursion}
use Rattle.std.specs.declared.option.Option.{Option}
use Rattle.std.specs.declared.option.Option.TheVariants.{None, Some}
use Rattle.rev_causal.specs.Machine.{Machine, Accepts, AgreeOn, AgreeOff, Legal, run, footprints}
use Rattle.rev_causal.specs.Order.{nearest, cone, outside}
use Rattle.rev_causal.specs.Entries.{Entry, entries, clash}

module _ {E : Type 0} where
  -- the numbers rise
  abbrev pub IsRising : List (ℕ × E) → Type 0
  IsRising [] = Unit {0}
  IsRising (x ∷ xs) = AllByRecursion (λ (y : ℕ × E). x.0 < y.0) xs × IsRising xs

  -- what stands under the number n
  abbrev pub event_at : ℕ → List (ℕ × E) → Option E
  event_at n [] = None
  event_at n (x ∷ xs) = cond (nat_eq x.0 n) (Some x.1) (event_at n xs)

  -- undo: the list without n
  abbrev pub without : ℕ → List (ℕ × E) → List (ℕ × E)
  without n [] = []
  without n (x ∷ xs) = cond (nat_eq x.0 n) xs (x ∷ without n xs)

  -- redo: the list with e under n, at its number's place
  abbrev pub put : ℕ → E → List (ℕ × E) → List (ℕ × E)
  put n e [] = (n, e) ∷ []
  put n e (x ∷ xs) = cond (nat_lt n x.0) ((n, e) ∷ x ∷ xs) (x ∷ put n e xs)

  -- what belongs to each event, under its number
  abbrev pub numbered_by : {A : Type 0} → List (ℕ × E) → List A → List (ℕ × A)
  numbered_by [] xs = []
  numbered_by (e ∷ es) [] = []
  numbered_by (e ∷ es) (x ∷ xs) = (e.0, x) ∷ numbered_by es xs

module _ (m : Machine) where
  -- each event's footprint at its place, under its number
  abbrev pub footprints_by_number : m.State → List (ℕ × m.Event) → List (ℕ × m.Footprint)
  footprints_by_number s es = numbered_by es (footprints m s es)

  -- the number of an entry, where there is one
  abbrev pub number_of : Option (Entry m) → Option ℕ
  number_of None = None
  number_of (Some z) = Some z.number

  -- the first later entry that conflicts with n's: where numbers rise, the least later number whose event depends on
  -- n's
  abbrev pub nearest_to : ℕ → List (Entry m) → Option ℕ
  nearest_to n [] = None
  nearest_to n (z ∷ zs) = cond (nat_eq z.number n) (number_of (nearest (clash m) z zs)) (nearest_to n zs)

  -- the first number above n whose event conflicts with the footprint
  abbrev pub nearest_above : ℕ → m.Footprint → List (Entry m) → Option ℕ
  nearest_above n f [] = None
  nearest_above n f (z ∷ zs) =
      cond (nat_lt n z.number) (cond (m.conflict f z.footprint) (Some z.number) (nearest_above n f zs))
      (nearest_above n f zs)

  -- what an undo that meets no dependent event leaves
  pub record Undone (s : m.State) (kept : List (ℕ × m.Event)) (n : ℕ) (e : m.Event) : Type 0 where
    -- the state at n's place
    pub before : m.State
    pub legal : Legal m s (without n kept)
    pub accepted : Accepts m before e
    -- its cells have the values from there, and all others those from the end
    pub put_back : AgreeOn m (m.writes (m.footprint before e)) before (run m s (without n kept))
    pub others : AgreeOff m (m.writes (m.footprint before e)) (run m s kept) (run m s (without n kept))
    -- a redo next: it is accepted, nothing is in its way, and the list is as it was
    pub again : Accepts m (run m s (without n kept)) e
    pub same_footprint : m.footprint (run m s (without n kept)) e ≡ m.footprint before e
    pub nothing_in_the_way : nearest_above n (m.footprint (run m s (without n kept)) e) (entries m s (without n kept))
        ≡ None
    pub restored : put n e (without n kept) ≡ kept

  -- what a redo leaves: it is legal, and its result is that of the event now
  pub record Redone (s : m.State) (kept : List (ℕ × m.Event)) (n : ℕ) (e : m.Event) : Type 0 where
    pub legal : Legal m s (put n e kept)
    pub result : run m s (put n e kept) ≡ m.after (run m s kept) e

module _ (m : Machine) where
  -- n's entry and the further members of its cone
  abbrev pub cone_of : ℕ → List (Entry m) → List (Entry m)
  cone_of n [] = []
  cone_of n (z ∷ zs) = cond (nat_eq z.number n) (z ∷ cone (clash m) (z ∷ []) zs) (cone_of n zs)

  -- and what they leave
  abbrev pub rest_of : ℕ → List (Entry m) → List (Entry m)
  rest_of n [] = []
  rest_of n (z ∷ zs) = cond (nat_eq z.number n) (outside (clash m) (z ∷ []) zs) (z ∷ rest_of n zs)
