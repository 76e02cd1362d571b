-- Whether the kept events of two histories are equivalent.
use Rattle.std.specs.Prelude.{◌≡◌, ◌↔◌, ℕ, Bool, true, false, List}
use Rattle.rev_causal.specs.Entries.{SwapEquivalent}
use Rattle.rev_causal.specs.OrderCheck.{IsEquality, IsMatched, IsLeastInverted, SameEvents, bare, OrderAnswer, EventsDiffer, SameOrder, Inverted, order_check}
use Rattle.rev_events.specs.declared.event.Event.{Event}
use Rattle.rev_graph.specs.Alike.{LendAlike}
use Rattle.rev_history.specs.declared.order.Order.{Order}
use Rattle.rev_history.specs.declared.order.Order.TheVariants as order
use Rattle.rev_history.specs.Timeline.{Timeline, IsHistory, kept_events, machine_at}

-- the same graph by what it lends, the same jobs and the same state at first
pub record IsSameOpening (t u : Timeline) : Type 0 where
  pub graph : LendAlike t.manifest u.manifest
  pub jobs : u.jobs ≡ t.jobs
  pub opening : u.opening ≡ t.opening

-- the kept events, in order
abbrev pub kept_in_order : Timeline → List Event
kept_in_order t = bare (kept_events t)

-- what the order check answers of u beside t, by whether the openings are the same
abbrev pub order_of : (Event → Event → Bool) → Bool → Timeline → Timeline → OrderAnswer
order_of same true t u = order_check (machine_at t) same t.opening (kept_events t) (kept_in_order u)
order_of same false t u = EventsDiffer

-- what an answer says of two histories
pub record IsOrder (same : Event → Event → Bool) (t u : Timeline) (answer : OrderAnswer) : Type 0 where
  -- the events differ: exactly where the openings do, or the events counted with repeats
  pub differ : (answer ≡ EventsDiffer) ↔ (IsSameOpening t u × SameEvents same (kept_in_order t) (kept_in_order u) → ⊥)
  -- the same: exactly where under some numbers the kept events of u are swap-equivalent to those of t
  pub same_order : (answer ≡ SameOrder)
      ↔ (IsSameOpening t u
      × ((other : List (ℕ × Event)) × (bare other ≡ kept_in_order u)
      × SwapEquivalent (machine_at t) t.opening (kept_events t) other))
  -- else the least pair that conflicts in t and stands the other way round in u
  pub inverted : (i j : ℕ) → answer ≡ Inverted i j
      → IsSameOpening t u
      × ((other : List (ℕ × Event)) × IsMatched (kept_events t) other × (bare other ≡ kept_in_order u)
      × IsLeastInverted (machine_at t) t.opening (kept_events t) other i j)

-- the answer of the order check, by whether the openings are the same, is exact
abbrev pub OrderIsExact : Type 0
OrderIsExact =
    (same : Event → Event → Bool) (t u : Timeline) (agree : Bool) → IsEquality same → IsHistory t
    → ((agree ≡ true) ↔ IsSameOpening t u) → IsOrder same t u (order_of same agree t u)

-- what an answer of the code means
abbrev pub answer_of : Order → OrderAnswer
answer_of order.EventsDiffer = EventsDiffer
answer_of order.Same = SameOrder
answer_of (order.Pair i j) = Inverted i j
