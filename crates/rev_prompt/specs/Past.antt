-- What was so when an edge was planned.
use Rattle.std.specs.Prelude.{◌≡◌, ℕ, Bool, true, false, not, ◌&&◌, nat_lt, List, [], ◌∷◌, filter, find, reverse, Option, Some, None, if◌then◌else◌}
use Rattle.rev_causal.specs.Machine.{Legal}
use Rattle.rev_cells.specs.State.{State}
use Rattle.rev_cells.specs.Table.{Records, Table}
use Rattle.rev_events.specs.declared.event.Event.{Event}
use Rattle.rev_events.specs.declared.event.Event.TheVariants.{Plan}
use Rattle.rev_events.specs.Machine.{after}
use Rattle.rev_history.specs.Timeline.{IsHistory, Timeline, chosen, event_at, machine_at, state_at}
use Rattle.rev_plan.specs.Chain.{has_wanted_mark}
use Rattle.rev_prompt.specs.declared.answers.Span.{Span}
use Rattle.rev_prompt.specs.declared.past.Planned.{Planned}

abbrev pub is_plan : Option Event → Bool
is_plan (Some (Plan targets)) = true
is_plan _ = false

-- the last kept plan under a lower number
abbrev pub is_plan_before : Timeline → ℕ → ℕ → Bool
is_plan_before t n k = nat_lt k n && is_plan (event_at t k)

abbrev pub plan_before : Timeline → ℕ → Option ℕ
plan_before t n = find (is_plan_before t n) (reverse t.kept)

-- The plan whose reasons are told of an edge with this last run: the last one before the run. None, and so the present
-- state, where it never ran or the present plan wants it.
abbrev pub plan_of : Timeline → ℕ → Option Span → Option ℕ
plan_of t edge None = None
plan_of t edge (Some span) = if has_wanted_mark (state_at t) edge then None else plan_before t span.began

-- the state after an event, if there is one
abbrev pub after_event : Timeline → State → Option Event → State
after_event t s None = s
after_event t s (Some e) = after t.manifest s e

-- the state that the events of these numbers, up to n, lead to from a state, each in its turn
abbrev pub led_by : Timeline → ℕ → State → List ℕ → State
led_by t n s [] = s
led_by t n s (k ∷ ks) = if nat_lt n k then s else led_by t n (after_event t s (event_at t k)) ks

-- the state after the kept events up to n
abbrev pub state_by : Timeline → ℕ → State
state_by t n = led_by t n t.opening t.kept

-- the state after a plan, or the present one
abbrev pub state_then : Timeline → Option ℕ → State
state_then t None = state_at t
state_then t (Some n) = state_by t n

-- it holds the state after its plan
abbrev pub IsPlanned : Timeline → Planned → Type 0
IsPlanned t planned = planned.cells.state ≡ state_by t planned.plan

-- the same, and its plan is this one
abbrev pub IsPlannedBy : Timeline → ℕ → Planned → Type 0
IsPlannedBy t plan planned = (planned.plan ≡ plan) × IsPlanned t planned

-- the history that ends with n: of the kept numbers those up to it
abbrev pub up_to : ℕ → Timeline → Timeline
up_to n t = record t { kept = filter (λ k. not (nat_lt n k)) t.kept }

-- It is a history, and the state after n is the one that it leads to.
pub record EndsWith (t : Timeline) (n : ℕ) : Type 0 where
  pub history : IsHistory (up_to n t)
  pub state : state_by t n ≡ state_at (up_to n t)

abbrev pub PastStatesAreLed : Type 0
PastStatesAreLed = (t : Timeline) (n : ℕ) → IsHistory t → EndsWith t n

-- the opening is that of the history
pub record IsOpeningOf (t : Timeline) (opening : Records) : Type 0 where
  pub jobs : opening.jobs ≡ t.jobs
  pub state : opening.state ≡ t.opening

-- AS IT IS FOUND
-- from these cells the events of these numbers are accepted, each in its turn
pub record CanFollow (t : Timeline) (ks : List ℕ) (cells : Table) : Type 0 where
  pub jobs : cells.jobs ≡ t.jobs
  pub legal : Legal (machine_at t) cells.state (chosen t.accepted ks)

-- these cells are on the way to the state after n, where these numbers are left
pub record IsLed (t : Timeline) (n : ℕ) (ks : List ℕ) (cells : Table) : Type 0 where
  pub can : CanFollow t ks cells
  pub led : led_by t n cells.state ks ≡ state_by t n
