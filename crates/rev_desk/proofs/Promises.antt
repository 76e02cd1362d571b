-- The laws of all desks, from those of all histories.
use Rattle.std.proofs.Common.{◌≡◌, ℕ, List, [], ◌∷◌, Option, Some, None, IsSome, refl, sym, ap, subst, ◌∙◌}
use Rattle.rev_commands.specs.declared.command.Command.{Command}
use Rattle.rev_commands.specs.declared.command.Command.TheVariants as command
use Rattle.rev_commands.specs.declared.command.Command.TheVariants.{Undo, Redo}
use Rattle.rev_commands.specs.declared.which.Which.TheVariants.{Number}
use Rattle.rev_events.specs.declared.refusal.Refusal.{Refusal}
use Rattle.rev_events.specs.declared.refusal.Refusal.TheVariants.{DependedOn}
use Rattle.rev_history.specs.Timeline.{Timeline, redo_refusal, redone, undo_refusal, undone}
use Rattle.rev_history.proofs.Promises as history
use Rattle.rev_desk.specs.declared.reply.Reply.{Reply}
use Rattle.rev_desk.specs.declared.reply.Reply.TheVariants as reply
use Rattle.rev_desk.specs.declared.reply.Reply.TheVariants.{Refused}
use Rattle.rev_desk.specs.Machine.{DeskStateValue, DeskValue, after, answer_on, desk_state_of, moved_by, moved_on, next_number, refusal_of, refusal_on, reply_by, reply_to, target}
use Rattle.rev_desk.specs.Laws.{AllRefused, NearestIsNamed, RedoNextRestores, RefusedChangesNothing, UndoExactlyWhenIndependent, UndoLeavesTheOthers, after_all}

-- the desk_state after a command, by its refusal
desk_state_by : (d : DeskValue) (lane : ℕ) (c : Command) (o : Option Refusal) → refusal_of d c ≡ o → desk_state_of (after d lane c) ≡ moved_by (desk_state_of d) (moved_on (desk_state_of d) (next_number d) (target d.journal c) c) o
desk_state_by d lane c o e = ap (moved_by (desk_state_of d) (moved_on (desk_state_of d) (next_number d) (target d.journal c) c)) e

-- what is not refused has no refusal for an answer
no_refusal : (s : DeskStateValue) (n : ℕ) (m : Option ℕ) (c : Command) (r : Refusal) → answer_on s n m c ≡ Refused r → ⊥
no_refusal s n m (command.Event e) r h = cc
no_refusal s n m (command.Undo w) r h = cc
no_refusal s n m (command.Redo w) r h = cc
no_refusal s n m command.Back r h = cc
no_refusal s n m (command.Cone w) r h = cc
no_refusal s n m (command.Break p) r h = cc
no_refusal s n m (command.Unbreak b) r h = cc
no_refusal s n m command.Continue r h = cc

-- the reply is a refusal where the command is refused, for the same reason
refused_for : (s : DeskStateValue) (n : ℕ) (m : Option ℕ) (c : Command) (r : Refusal) (o : Option Refusal) → reply_by (answer_on s n m c) o ≡ Refused r → o ≡ Some r
refused_for s n m c r None h = absurd (no_refusal s n m c r h)
refused_for s n m c r (Some q) h = let same : q ≡ r = cc in ap Some same

refused_as : (d : DeskValue) (c : Command) (r : Refusal) → reply_to d c ≡ Refused r → refusal_of d c ≡ Some r
refused_as d c r h = refused_for (desk_state_of d) (next_number d) (target d.journal c) c r (refusal_of d c) h

pub refused_changes_nothing : RefusedChangesNothing
refused_changes_nothing d lane c r h = desk_state_by d lane c (Some r) (refused_as d c r h)

pub undo_exactly_when_independent : UndoExactlyWhenIndependent
undo_exactly_when_independent d n h = history.undo_exactly_when_independent d.history n h.history

undo_leaves : (d : DeskValue) (lane n : ℕ) → refusal_of d (Undo (Number n)) ≡ None → (after d lane (Undo (Number n))).history ≡ undone n d.history
undo_leaves d lane n free = ap (λ (s : DeskStateValue). s.history) (desk_state_by d lane (Undo (Number n)) None free)

pub undo_leaves_the_others : UndoLeavesTheOthers
undo_leaves_the_others d lane n h free = (undo_leaves d lane n free, history.undo_leaves_the_others d.history n h.history free)

pub nearest_is_named : NearestIsNamed
nearest_is_named d n m h is = history.nearest_is_named d.history n m h.history (refused_as d (Undo (Number n)) (DependedOn m) is)

-- refused commands keep the history
kept_between : (d : DeskValue) (between : List (ℕ × Command)) → AllRefused d between → (after_all d between).history ≡ d.history
kept_between d [] h = refl
kept_between d (x ∷ xs) h = kept_between (after d x.0 x.1) xs h.1 ∙ ap (λ (s : DeskStateValue). s.history) (by_some (refusal_of d x.1) refl h.0)
  where
    by_some : (o : Option Refusal) → refusal_of d x.1 ≡ o → IsSome o → desk_state_of (after d x.0 x.1) ≡ desk_state_of d
    by_some None e some = cc
    by_some (Some r) e some = desk_state_by d x.0 x.1 (Some r) e

pub redo_next_restores : RedoNextRestores
redo_next_restores d lane other n between h free refused =
    let e : DeskValue = after_all (after d lane (Undo (Number n))) between in
    let same : e.history ≡ undone n d.history = kept_between (after d lane (Undo (Number n))) between refused ∙ undo_leaves d lane n free in
    let restores : (redo_refusal (undone n d.history) n ≡ None) × (redone n (undone n d.history) ≡ d.history) = history.redo_next_restores d.history n h.history free in
    let open_now : refusal_of e (Redo (Number n)) ≡ None = ap (λ (t : Timeline). redo_refusal t n) same ∙ restores.0 in
    (open_now, ap (λ (s : DeskStateValue). s.history) (desk_state_by e other (Redo (Number n)) None open_now) ∙ ap (redone n) same ∙ restores.1)
