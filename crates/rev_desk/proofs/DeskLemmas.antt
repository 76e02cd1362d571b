-- What a command leaves of a desk.
use Rattle.std.proofs.Common.{◌≡◌, ℕ, ◌+◌, ◌<◌, ◌≤◌, ◌^◌, Bool, false, List, [], ◌∷◌, ◌++◌, length, Option, Some, None, refl, sym, ap, subst, ◌∙◌, arith, length-append}
use Rattle.rev_commands.specs.declared.command.Command.{Command}
use Rattle.rev_commands.specs.declared.command.Command.TheVariants as command
use Rattle.rev_events.specs.declared.refusal.Refusal.{Refusal}
use Rattle.rev_cells.specs.State.{State}
use Rattle.rev_manifest.specs.Manifest.{ManifestValue}
use Rattle.rev_history.specs.Timeline.{Timeline, IsHistory, opened}
use Rattle.rev_desk.specs.declared.reply.Reply.{Reply}
use Rattle.rev_desk.specs.declared.reply.Entry.{Entry}
use Rattle.rev_desk.specs.Machine.{DeskStateValue, DeskValue, opened_desk, after, desk_state_after, desk_state_of, entry_of, moved_by, moved_on, next_number, refusal_on, reply_to, target}
use Rattle.rev_desk.specs.Sound.{IsDesk, IsLegalFrom, opening_of, run_of}

abbrev pub opened_on : DeskStateValue → Timeline
opened_on s = opened s.history.manifest s.history.jobs s.history.opening

moved_keeps : (s : DeskStateValue) (n : ℕ) (m : Option ℕ) (c : Command) → opened_on (moved_on s n m c) ≡ opened_on s
moved_keeps s n m (command.Event e) = refl
moved_keeps s n m (command.Undo w) = refl
moved_keeps s n m (command.Redo w) = refl
moved_keeps s n m command.Back = refl
moved_keeps s n m (command.Cone w) = refl
moved_keeps s n m (command.Break p) = refl
moved_keeps s n m (command.Unbreak b) = refl
moved_keeps s n m command.Continue = refl

-- no command changes where the history opened
desk_state_keeps : (s : DeskStateValue) (n : ℕ) (m : Option ℕ) (c : Command) → opened_on (desk_state_after s n m c) ≡ opened_on s
desk_state_keeps s n m c = elim (refusal_on s m c) as (λ r. opened_on (moved_by s (moved_on s n m c) r) ≡ opened_on s) [ None ↦ moved_keeps s n m c | Some r ↦ refl ]

pub same_opening : (d : DeskValue) (lane : ℕ) (c : Command) → opening_of (after d lane c) ≡ opening_of d
same_opening d lane c =
    let build : Timeline → DeskValue = λ t. record { history = t; breaks = []; paused = false; journal = []; lanes = d.lanes } in
    ap build (desk_state_keeps (desk_state_of d) (next_number d) (target d.journal c) c)

pub run-push : (d : DeskValue) (es : List Entry) (e : Entry) → run_of d (es ++ e ∷ []) ≡ after (run_of d es) e.lane e.command
run-push d [] e = refl
run-push d (x ∷ es) e = run-push (after d x.lane x.command) es e

pub legal-push : (d : DeskValue) (es : List Entry) (e : Entry) → IsLegalFrom d es → e.lane < (run_of d es).lanes → e.reply ≡ reply_to (run_of d es) e.command → IsLegalFrom d (es ++ e ∷ [])
legal-push d [] e h lt is = (lt, is, tt)
legal-push d (x ∷ es) e h lt is = (h.0, h.1, legal-push (after d x.lane x.command) es e h.2 lt is)

pub IsDesk-after : (d : DeskValue) (lane : ℕ) (c : Command) → lane < d.lanes → length d.journal < 2 ^ 20 → IsHistory (after d lane c).history → IsDesk d → IsDesk (after d lane c)
IsDesk-after d lane c lt room history h = record {
  legal =
      subst (λ (o : DeskValue). IsLegalFrom o (d.journal ++ entry_of d lane c ∷ [])) (sym (same_opening d lane c))
      (legal-push (opening_of d) d.journal (entry_of d lane c) h.legal (subst (λ (x : DeskValue). lane < x.lanes) (sym h.led) lt) (ap (λ (x : DeskValue). reply_to x c) (sym h.led)));
  led =
      ap (λ (o : DeskValue). run_of o (d.journal ++ entry_of d lane c ∷ [])) (same_opening d lane c)
      ∙ run-push (opening_of d) d.journal (entry_of d lane c) ∙ ap (λ (x : DeskValue). after x lane c) h.led;
  history = history;
  few = omega (arith, length-append d.journal (entry_of d lane c ∷ []));
  some = h.some;
  most = h.most;
}

abbrev pub with_parts : DeskStateValue → List Entry → ℕ → DeskValue
with_parts s es lanes = record { history = s.history; breaks = s.breaks; paused = s.paused; journal = es; lanes = lanes }

pub same_parts : (s u : DeskStateValue) (es fs : List Entry) (m n : ℕ) → s ≡ u → es ≡ fs → m ≡ n → with_parts s es m ≡ with_parts u fs n
same_parts s u es fs m n e f g = ap (λ x. with_parts x es m) e ∙ ap (λ x. with_parts u x m) f ∙ ap (λ x. with_parts u fs x) g

pub value-after : (d : DeskValue) (s : DeskStateValue) (es : List Entry) (lanes lane : ℕ) (c : Command) (r : Reply) → s ≡ desk_state_after (desk_state_of d) (next_number d) (target d.journal c) c
    → r ≡ reply_to d c → es ≡ d.journal ++ record { lane = lane; command = c; reply = r } ∷ [] → lanes ≡ d.lanes → with_parts s es lanes ≡ after d lane c
value-after d s es lanes lane c r is reply entries same =
    let entry : Reply → Entry = λ x. record { lane = lane; command = c; reply = x } in
    same_parts s _ es (d.journal ++ entry_of d lane c ∷ []) lanes d.lanes is (entries ∙ ap (λ x. d.journal ++ entry x ∷ []) reply) same

pub IsDesk-opened : (manifest : ManifestValue) (jobs : ℕ) (state : State) (lanes : ℕ) → 1 ≤ lanes → lanes ≤ 64 → IsDesk (opened_desk manifest jobs state lanes)
IsDesk-opened manifest jobs state lanes some most =
    record { legal = tt; led = refl; history = record { rising = tt; accepted = tt; legal = tt }; few = omega arith; some = some; most = most }
