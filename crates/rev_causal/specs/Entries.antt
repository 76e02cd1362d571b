-- Events with their numbers and the footprints of the states at their places, and equivalent lists.
use Rattle.std.specs.Prelude.{◌≡◌, ℕ, Bool, false, List, [], ◌∷◌}
use Rattle.rev_causal.specs.Machine.{Machine, Accepts, Legal}
use Rattle.rev_causal.specs.Order.{Equivalent}

-- an event of a list, under its number, with a footprint
pub record Entry (m : Machine) : Type 0 where
  pub number : ℕ
  pub event : m.Event
  pub footprint : m.Footprint

module _ (m : Machine) where
  -- the entries of a list of events, with the footprints at their places
  abbrev pub entries : m.State → List (ℕ × m.Event) → List (Entry m)
  entries s [] = []
  entries s (e ∷ es) = record { number = e.0; event = e.1; footprint = m.footprint s e.1 } ∷ entries (m.after s e.1) es

  -- the events of a list of entries
  abbrev pub events : List (Entry m) → List (ℕ × m.Event)
  events [] = []
  events (z ∷ zs) = (z.number, z.event) ∷ events zs

  -- entries that are a run from a state: each is accepted at its place, and has the footprint of the state there
  abbrev pub IsRun : m.State → List (Entry m) → Type 0
  IsRun s [] = Unit {0}
  IsRun s (z ∷ zs) = Accepts m s z.event × (z.footprint ≡ m.footprint s z.event) × IsRun (m.after s z.event) zs

  -- the state that they lead to
  abbrev pub last_state : m.State → List (Entry m) → m.State
  last_state s [] = s
  last_state s (z ∷ zs) = last_state (m.after s z.event) zs

  -- whether two entries conflict
  abbrev pub clash : Entry m → Entry m → Bool
  clash a b = m.conflict a.footprint b.footprint

  -- Two legal lists are swap-equivalent where exchanges of neighbours that do not conflict make one of the other.
  -- Numbers and footprints travel with their events.
  abbrev pub SwapEquivalent : m.State → List (ℕ × m.Event) → List (ℕ × m.Event) → Type 0
  SwapEquivalent s xs ys = Legal m s xs × Legal m s ys × Equivalent clash (entries s xs) (entries s ys)

  -- The same as a relation on lists of events: exchanges of neighbours that do not conflict, within legal lists, with
  -- each footprint taken at its place.
  pub data Swaps : m.State → List (ℕ × m.Event) → List (ℕ × m.Event) → Type 0 where
    same : {s : m.State} {xs : List (ℕ × m.Event)} → Swaps s xs xs
    exchange : {s : m.State} (a b : ℕ × m.Event) (xs : List (ℕ × m.Event)) → Accepts m s a.1
        → Accepts m (m.after s a.1) b.1 → m.conflict (m.footprint s a.1) (m.footprint (m.after s a.1) b.1) ≡ false
        → Swaps s (a ∷ b ∷ xs) (b ∷ a ∷ xs)
    behind : {s : m.State} (x : ℕ × m.Event) {xs ys : List (ℕ × m.Event)} → Swaps (m.after s x.1) xs ys
        → Swaps s (x ∷ xs) (x ∷ ys)
    back : {s : m.State} {xs ys : List (ℕ × m.Event)} → Swaps s xs ys → Swaps s ys xs
    follow : {s : m.State} {xs ys zs : List (ℕ × m.Event)} → Swaps s xs ys → Swaps s ys zs → Swaps s xs zs
