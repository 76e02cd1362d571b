-- What another order of events makes.
use Rattle.std.specs.Prelude.{◌≡◌, ℕ, ◌+◌, ◌==◌, List, [], ◌∷◌, Option, Some, None, Result, Ok, Err, true, if◌then◌else◌}
use Rattle.rev_causal.specs.OrderCheck.{OrderAnswer}
use Rattle.rev_events.specs.declared.event.Event.{Event}
use Rattle.rev_events.specs.declared.refusal.Refusal.{Refusal}
use Rattle.rev_events.specs.declared.refusal.Refusal.TheVariants.{NoSuchEvent}
use Rattle.rev_events.specs.Same.{event_eq}
use Rattle.rev_history.specs.Order.{IsOrder, answer_of, order_of}
use Rattle.rev_history.specs.Timeline.{Timeline, accept_refusal, accepted_as, event_at, last_of, opened}
use Rattle.rev_order_text.specs.declared.ordered.Ordered.{Ordered}
use Rattle.rev_order_text.specs.declared.ordered.Ordered.TheVariants as ordered

-- the number of an event that is not accepted, and why; no refusal where a journal has no room for it
abbrev pub RefusedEvent : Type 0
RefusedEvent = ℕ × Option Refusal

-- a history, or the event that it does not accept
abbrev pub Said : Type 0
Said = Result Timeline RefusedEvent

abbrev pub and_then : Said → (Timeline → Said) → Said
and_then (Ok u) next = next u
and_then (Err p) next = Err p

abbrev pub unless_refused : ℕ → Option Refusal → Timeline → Said
unless_refused n (Some r) u = Err (n, Some r)
unless_refused n None u = Ok u

-- the event of a number under the next number; or why it is not accepted, which is no refusal where no number is left
abbrev pub said_event : Timeline → ℕ → Option Event → Said
said_event u n None = Err (n, Some NoSuchEvent)
said_event u n (Some e) =
    if last_of u.accepted == 4294967295 then Err (n, None)
    else unless_refused n (accept_refusal u e) (accepted_as (last_of u.accepted + 1) e u)

-- u with the events of these numbers of t, each under the next number; or the first that is refused, and why
abbrev pub said_again : Timeline → Timeline → List ℕ → Said
said_again t u [] = Ok u
said_again t u (n ∷ ns) = and_then (said_event u n (event_at t n)) (λ v. said_again t v ns)

-- the events of these numbers, run from the opening once more
abbrev pub run_again : Timeline → List ℕ → Said
run_again t ns = said_again t (opened t.manifest t.jobs t.opening) ns

-- the history where none was refused, else the first that was
abbrev pub said_by : Option RefusedEvent → Timeline → Said
said_by None u = Ok u
said_by (Some p) u = Err p

-- what the order check answers of a history beside the kept events, or the first event that was refused
abbrev pub ordered_of : Timeline → Said → Result OrderAnswer RefusedEvent
ordered_of t (Ok u) = Ok (order_of event_eq true t u)
ordered_of t (Err p) = Err p

-- what an answer of the code means
abbrev pub outcome_of : Ordered → Result OrderAnswer RefusedEvent
outcome_of (ordered.Ran order) = Ok (answer_of order)
outcome_of (ordered.Refused number why) = Err (number, why)

-- how the history that was made stands to the kept one, or which event was refused there, and why
abbrev pub IsOrdered : Timeline → Said → Ordered → Type 0
IsOrdered t (Ok u) (ordered.Ran order) = IsOrder event_eq t u (answer_of order)
IsOrdered t (Err p) (ordered.Refused number why) = (p.0 ≡ number) × (p.1 ≡ why)
IsOrdered t said told = ⊥
