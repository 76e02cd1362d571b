-- A history: the manifest, where it opened, each event that was accepted under its number, and which of these are kept.
use Rattle.std.specs.Prelude.{ℕ, List, [], ◌∷◌, ◌++◌, Option, Some, None, IsSome, length, map, slice_get, ◌-◌, refl, if◌then◌else◌}
use Rattle.std.specs.List.{AllByRecursion}
use Rattle.std.specs.Coded.{Coded, code_by, coded×, coded_list, coded_ℕ}
use Rattle.std.specs.FinMap as finmap
use Rattle.rev_causal.specs.Machine.{Machine, Legal, run}
use Rattle.rev_causal.specs.Entries.{Entry, entries}
pub use Rattle.rev_causal.specs.Chosen.{under, chosen, last_of, IsRising, is_among, without, placed}
use Rattle.rev_causal.specs.History as causal
use Rattle.rev_cells.specs.Codes.{coded_value}
use Rattle.rev_cells.specs.Keys.{coded_cell}
use Rattle.rev_cells.specs.State.{State}
use Rattle.rev_manifest.specs.Manifest.{ManifestValue}
use Rattle.rev_graph.specs.Codes.{coded_manifest}
use Rattle.rev_events.specs.declared.event.Event.{Event}
use Rattle.rev_events.specs.declared.refusal.Refusal.{Refusal}
use Rattle.rev_events.specs.declared.refusal.Refusal.TheVariants.{NoSuchEvent, NotKept, DependedOn, AlreadyKept, Overtaken, NothingKept}
use Rattle.rev_events.specs.Codes.{coded_event}
use Rattle.rev_events.specs.Machine.{refusal, after}
use Rattle.rev_events.specs.Refusal.{not_now}
use Rattle.rev_footprint.specs.Value.{FootprintValue, print_of}
use Rattle.rev_footprint.specs.Footprint.{footprint}
use Rattle.rev_footprint.specs.Machine.{machine}

-- events under their numbers
abbrev pub Numbered : Type 0
Numbered = List (ℕ × Event)

pub record Timeline : Type 0 where
  pub manifest : ManifestValue
  pub jobs : ℕ
  pub opening : State
  pub accepted : Numbered
  pub kept : List ℕ

abbrev pub timeline_code : Coded Timeline
timeline_code =
    code_by (ManifestValue × (ℕ × (State × (Numbered × List ℕ))))
    (coded× coded_manifest (coded× coded_ℕ
    (coded× (finmap.code coded_cell coded_value)
    (coded× (coded_list (coded× coded_ℕ coded_event)) (coded_list coded_ℕ)))))
    (λ t. (t.manifest, (t.jobs, (t.opening, (t.accepted, t.kept)))))
    (λ p. record { manifest = p.0; jobs = p.1.0; opening = p.1.1.0; accepted = p.1.1.1.0; kept = p.1.1.1.1 })
    (λ _. refl)

-- a history in which nothing was accepted yet
abbrev pub opened : ManifestValue → ℕ → State → Timeline
opened manifest jobs state = record { manifest = manifest; jobs = jobs; opening = state; accepted = []; kept = [] }

-- the machine of its builds
abbrev pub machine_at : Timeline → Machine
machine_at t = machine t.manifest t.jobs

-- the event that was accepted under a number
abbrev pub event_at : Timeline → ℕ → Option Event
event_at t n = causal.event_at n t.accepted

-- the kept events under their numbers
abbrev pub kept_events : Timeline → Numbered
kept_events t = chosen t.accepted t.kept

-- the state that the kept events lead to from the opening
abbrev pub state_at : Timeline → State
state_at t = run (machine_at t) t.opening (kept_events t)

-- the kept events with the footprints that they have at their places
abbrev pub kept_entries : (t : Timeline) → List (Entry (machine_at t))
kept_entries t = entries (machine_at t) t.opening (kept_events t)

-- each event's footprint in the state at its place, under its number
abbrev pub footprints_along : ManifestValue → State → Numbered → List (ℕ × FootprintValue)
footprints_along manifest s [] = []
footprints_along manifest s (e ∷ es) =
    (e.0, footprint manifest s e.1) ∷ footprints_along manifest (after manifest s e.1) es

-- the footprint that a kept event has at its place
abbrev pub kept_footprint : Timeline → ℕ → Option FootprintValue
kept_footprint t n = causal.event_at n (footprints_along t.manifest t.opening (kept_events t))

-- the least kept number above n whose event, with the footprint of its place, conflicts with a footprint
abbrev pub nearest_conflict : ℕ → FootprintValue → Timeline → Option ℕ
nearest_conflict n f t = causal.nearest_above (machine_at t) n (print_of f) (kept_entries t)

-- the kept numbers rise, an event was accepted under each, and each of these events is accepted in the state that those
-- before it leave
pub record IsHistory (t : Timeline) : Type 0 where
  pub rising : IsRising t.kept
  pub accepted : AllByRecursion (λ n. IsSome (event_at t n)) t.kept
  pub legal : Legal (machine_at t) t.opening (kept_events t)

-- why an event is refused now
abbrev pub accept_refusal : Timeline → Event → Option Refusal
accept_refusal t e = refusal t.manifest t.jobs (state_at t) e

-- the history with one more event, which is kept
abbrev pub accepted_as : ℕ → Event → Timeline → Timeline
accepted_as n e t = record t { accepted = t.accepted ++ (n, e) ∷ []; kept = t.kept ++ n ∷ [] }

-- where some event depends on the one that is to be undone, the nearest one
abbrev pub depended_on : Option ℕ → Option Refusal
depended_on None = None
depended_on (Some m) = Some (DependedOn m)

abbrev pub undo_refusal_of : Timeline → ℕ → Option Event → Option Refusal
undo_refusal_of t n None = Some NoSuchEvent
undo_refusal_of t n (Some e) =
    if is_among t.kept n then depended_on (causal.nearest_to (machine_at t) n (kept_entries t)) else Some NotKept

-- why the undo of n is refused: no event was accepted under n; n is not kept; the event of a later kept number
-- conflicts with that of n, and the least such number
abbrev pub undo_refusal : Timeline → ℕ → Option Refusal
undo_refusal t n = undo_refusal_of t n (event_at t n)

-- the history without n among the kept numbers
abbrev pub undone : ℕ → Timeline → Timeline
undone n t = record t { kept = without n t.kept }

abbrev pub overtaken : Option ℕ → Option Refusal
overtaken None = None
overtaken (Some m) = Some (Overtaken m)

abbrev pub redo_refusal_now : Timeline → ℕ → Event → Option Refusal → Option Refusal
redo_refusal_now t n e (Some r) = Some (not_now r)
redo_refusal_now t n e None =
    overtaken (causal.nearest_above (machine_at t) n (print_of (footprint t.manifest (state_at t) e)) (kept_entries t))

abbrev pub redo_refusal_of : Timeline → ℕ → Option Event → Option Refusal
redo_refusal_of t n None = Some NoSuchEvent
redo_refusal_of t n (Some e) =
    if is_among t.kept n then Some AlreadyKept else redo_refusal_now t n e (accept_refusal t e)

-- why the redo of n is refused: no event was accepted under n; n is kept; the event is refused in the present state;
-- the event of a kept number above n conflicts with the footprint that n's event has in the present state, and the
-- least such number
abbrev pub redo_refusal : Timeline → ℕ → Option Refusal
redo_refusal t n = redo_refusal_of t n (event_at t n)

-- the history with n at its place among the kept numbers
abbrev pub redone : ℕ → Timeline → Timeline
redone n t = record t { kept = placed n t.kept }

-- the greatest kept number, which is the last one
abbrev pub greatest_kept : Timeline → Option ℕ
greatest_kept t = slice_get t.kept (length t.kept - 1)

abbrev pub nothing_kept : Option ℕ → Option Refusal
nothing_kept None = Some NothingKept
nothing_kept (Some n) = None

-- why there is no step back: nothing is kept
abbrev pub back_refusal : Timeline → Option Refusal
back_refusal t = nothing_kept (greatest_kept t)

abbrev pub cone_refusal_of : Timeline → ℕ → Option Event → Option Refusal
cone_refusal_of t n None = Some NoSuchEvent
cone_refusal_of t n (Some e) = if is_among t.kept n then None else Some NotKept

-- why the cone of n is not undone: no event was accepted under n, or n is not kept
abbrev pub cone_refusal : Timeline → ℕ → Option Refusal
cone_refusal t n = cone_refusal_of t n (event_at t n)

abbrev pub numbers_of : {m : Machine} → List (Entry m) → List ℕ
numbers_of zs = map (λ z. z.number) zs

-- the numbers of the cone of n: n and, in rising order, each later one whose event depends on a member
abbrev pub cone_numbers : ℕ → Timeline → List ℕ
cone_numbers n t = numbers_of (causal.cone_of (machine_at t) n (kept_entries t))

-- the history without the cone of n
abbrev pub coned : ℕ → Timeline → Timeline
coned n t = record t { kept = numbers_of (causal.rest_of (machine_at t) n (kept_entries t)) }
