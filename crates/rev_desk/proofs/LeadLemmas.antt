-- Whatever is said to a desk, its kept events lead to its state.
use Rattle.std.proofs.Common.{◌≡◌, ℕ, ◌+◌, ◌<◌, Bool, true, false, cond, List, [], ◌∷◌, ◌++◌, length, Option, Some, None, refl, sym, ap, subst, ◌∙◌, arith, length-append}
use Rattle.std.specs.Prelude.{unwrap_or}
use Rattle.rev_causal.proofs.Chosen.{last_of-push}
use Rattle.rev_commands.specs.declared.command.Command.{Command}
use Rattle.rev_commands.specs.declared.command.Command.TheVariants as command
use Rattle.rev_events.specs.declared.event.Event.{Event}
use Rattle.rev_events.specs.declared.refusal.Refusal.{Refusal}
use Rattle.rev_events.specs.declared.refusal.Refusal.TheVariants.{NoSuchEvent, Paused}
use Rattle.rev_history.specs.Timeline.{Timeline, IsHistory, accept_refusal, accepted_as, back_refusal, coned, greatest_kept, last_of, nothing_kept, redo_refusal, redone, undo_refusal, undone}
use Rattle.rev_history.proofs.Commands.{accepted_history, free_undo, greatest_free, redone_history, undone_history}
use Rattle.rev_history.proofs.Cones.{coned_history}
use Rattle.rev_desk.specs.declared.reply.Entry.{Entry}
use Rattle.rev_desk.specs.Laws.{KeptEventsLead}
use Rattle.rev_desk.specs.Machine.{DeskStateValue, DeskValue, after, desk_state_after, desk_state_of, entry_of, moved_by, moved_on, next_number, opened_desk, refusal_on, refused_by, target}
use Rattle.rev_desk.specs.Sound.{run_of}

-- the kept events are accepted one after the other, and no event has the number n or one above
record Leads (t : Timeline) (n : ℕ) : Type 0 where
  pub history : IsHistory t
  pub last : last_of t.accepted < n

later : (t u : Timeline) (n : ℕ) → u.accepted ≡ t.accepted → IsHistory u → Leads t n → Leads u (n + 1)
later t u n same h l = record { history = h; last = let e : last_of u.accepted ≡ last_of t.accepted = ap last_of same in omega (arith, e, l.last) }

-- an event that is accepted

not_paused : (paused : Bool) (o : Option Refusal) → cond paused (Some Paused) o ≡ None → o ≡ None
not_paused true o h = cc
not_paused false o h = h

accepted_leads : (t : Timeline) (n : ℕ) (e : Event) → Leads t n → accept_refusal t e ≡ None → Leads (accepted_as n e t) (n + 1)
accepted_leads t n e l free = record {
  history = accepted_history t n e l.history l.last free;
  last = let is : last_of (accepted_as n e t).accepted ≡ n = last_of-push t.accepted n e l.last in omega (arith, is);
}

-- an event that is named

undone_leads : (t : Timeline) (n : ℕ) (m : Option ℕ) → Leads t n → refused_by (undo_refusal t) m ≡ None → Leads (undone (unwrap_or m 0) t) (n + 1)
undone_leads t n None l h = cc
undone_leads t n (Some k) l h = later t (undone k t) n refl (undone_history t k l.history h) l

redone_leads : (t : Timeline) (n : ℕ) (m : Option ℕ) → Leads t n → refused_by (redo_refusal t) m ≡ None → Leads (redone (unwrap_or m 0) t) (n + 1)
redone_leads t n None l h = cc
redone_leads t n (Some k) l h = later t (redone k t) n refl (redone_history t k l.history h) l

back_by : (t : Timeline) (n : ℕ) (o : Option ℕ) → greatest_kept t ≡ o → Leads t n → nothing_kept o ≡ None → Leads (undone (unwrap_or o 0) t) (n + 1)
back_by t n None e l h = cc
back_by t n (Some k) e l h = later t (undone k t) n refl (undone_history t k l.history (free_undo t k (greatest_free t k l.history e))) l

-- a command that is not refused

moved_leads : (s : DeskStateValue) (n : ℕ) (m : Option ℕ) (c : Command) → Leads s.history n → refusal_on s m c ≡ None → Leads (moved_on s n m c).history (n + 1)
moved_leads s n m (command.Event e) l h = accepted_leads s.history n e l (not_paused s.paused (accept_refusal s.history e) h)
moved_leads s n m (command.Undo w) l h = undone_leads s.history n m l h
moved_leads s n m (command.Redo w) l h = redone_leads s.history n m l h
moved_leads s n m command.Back l h = back_by s.history n (greatest_kept s.history) refl l h
moved_leads s n m (command.Cone w) l h = later s.history (coned (unwrap_or m 0) s.history) n refl (coned_history s.history (unwrap_or m 0) l.history) l
moved_leads s n m (command.Break p) l h = later s.history s.history n refl l.history l
moved_leads s n m (command.Unbreak b) l h = later s.history s.history n refl l.history l
moved_leads s n m command.Continue l h = later s.history s.history n refl l.history l

desk_state_by : (s : DeskStateValue) (n : ℕ) (m : Option ℕ) (c : Command) (r : Option Refusal) → refusal_on s m c ≡ r → Leads s.history n → Leads (moved_by s (moved_on s n m c) r).history (n + 1)
desk_state_by s n m c None e l = moved_leads s n m c l e
desk_state_by s n m c (Some r) e l = later s.history s.history n refl l.history l

-- all of them

desk_leads : (d : DeskValue) (lane : ℕ) (c : Command) → Leads d.history (next_number d) → Leads (after d lane c).history (next_number (after d lane c))
desk_leads d lane c l =
    let n : next_number d + 1 ≡ next_number (after d lane c) = omega (arith, length-append d.journal (entry_of d lane c ∷ [])) in
    subst (Leads (after d lane c).history) n (desk_state_by (desk_state_of d) (next_number d) (target d.journal c) c (refusal_on (desk_state_of d) (target d.journal c) c) refl l)

run_leads : (d : DeskValue) (said : List Entry) → Leads d.history (next_number d) → Leads (run_of d said).history (next_number (run_of d said))
run_leads d [] l = l
run_leads d (e ∷ said) l = run_leads (after d e.lane e.command) said (desk_leads d e.lane e.command l)

pub kept_events_lead : KeptEventsLead
kept_events_lead manifest jobs lanes opening said =
    (run_leads (opened_desk manifest jobs opening lanes) said (record { history = record { rising = tt; accepted = tt; legal = tt }; last = omega arith })).history
