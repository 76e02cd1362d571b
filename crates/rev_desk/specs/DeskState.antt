-- What commands change, as it is held.
use Rattle.std.specs.Prelude.{◌≡◌, ℕ, ◌+◌, ◌<◌, Option, Result, IfOk, OnOk, OnErr}
use Rattle.std.specs.declared.alloc.AllocError.{AllocError}
use Rattle.rev_events.specs.declared.refusal.Refusal.{Refusal}
use Rattle.rev_history.specs.Timeline.{last_of}
use Rattle.rev_desk.specs.declared.desk_state.DeskState.{DeskState}
use Rattle.rev_desk.specs.declared.reply.Reply.{Reply}
use Rattle.rev_desk.specs.Breaks.{AreBelow, AreSound}
use Rattle.rev_desk.specs.Machine.{DeskStateValue, reply_by, moved_by}

abbrev pub desk_state_value : DeskState → DeskStateValue
desk_state_value b = record { history = b.history.timeline; breaks = b.breaks.standing.items; paused = b.paused }

-- the breaks are kept soundly, and no event and no break has the number n or one above
pub record IsReady (b : DeskState) (n : ℕ) : Type 0 where
  pub breaks : AreSound b.history.timeline.manifest b.breaks
  pub last : last_of b.history.timeline.accepted < n
  pub below : AreBelow n b.breaks.standing.items

-- A command was answered: by the refusal, where there is one, and then nothing changed; else by this reply, and with
-- this change. It may have failed for lack of memory, and then nothing changed either.
pub record Does
    (old new : DeskState) (n : ℕ) (refusal : Option Refusal) (answer : Reply) (moved : DeskStateValue)
    (r : Result Reply AllocError)
    : Type 0 where
  pub reply : IfOk r (λ reply. reply ≡ reply_by answer refusal)
  pub ok : OnOk r (desk_state_value new ≡ moved_by (desk_state_value old) moved refusal)
  pub err : OnErr r (desk_state_value new ≡ desk_state_value old)
  pub ready : OnOk r (IsReady new (n + 1))
  pub still : OnErr r (IsReady new n)
