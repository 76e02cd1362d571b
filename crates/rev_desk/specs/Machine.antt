-- The desk's machine: one reply and one next desk for each command of a lane.
use Rattle.std.specs.Prelude.{ℕ, ◌+◌, Bool, false, refl, List, [], ◌∷◌, ◌++◌, length, Option, Some, None, is_some, is_none, unwrap_or, if◌then◌else◌}
use Rattle.std.specs.Coded.{Coded, code_by, coded×, coded_list, coded_bool, coded_ℕ}
use Rattle.rev_cells.specs.State.{State}
use Rattle.rev_manifest.specs.Manifest.{ManifestValue}
use Rattle.rev_events.specs.declared.refusal.Refusal.{Refusal}
use Rattle.rev_events.specs.declared.refusal.Refusal.TheVariants.{NoSuchEdge, NoSuchEvent, Paused, NoSuchBreak}
use Rattle.rev_commands.specs.declared.command.Command.{Command}
use Rattle.rev_commands.specs.declared.command.Command.TheVariants as command
use Rattle.rev_commands.specs.declared.point.Point.{Point}
use Rattle.rev_history.specs.Timeline.{Timeline, timeline_code, opened, accept_refusal, accepted_as, undo_refusal, undone, redo_refusal, redone, greatest_kept, back_refusal, cone_refusal, cone_numbers, coned}
use Rattle.rev_desk.specs.declared.reply.Reply.{Reply}
use Rattle.rev_desk.specs.declared.reply.Reply.TheVariants as reply
use Rattle.rev_desk.specs.declared.reply.Entry.{Entry}
use Rattle.rev_desk.specs.Codes.{coded_entry, coded_point}
pub use Rattle.rev_desk.specs.Names.{lane_numbers, accepted_event, named, target}
pub use Rattle.rev_desk.specs.BreakKeys.{meets, point_break_key, least_met, stands, without_break}

-- what commands change: the history of the build, the breaks that stand, under their numbers, and whether events wait
-- for a `continue`
pub record DeskStateValue : Type 0 where
  pub history : Timeline
  pub breaks : List (ℕ × Point)
  pub paused : Bool

-- what is seen of a desk: these three, the journal of all that was said to it, and how many lanes speak
pub record DeskValue : Type 0 where
  pub history : Timeline
  pub breaks : List (ℕ × Point)
  pub paused : Bool
  pub journal : List Entry
  pub lanes : ℕ

abbrev pub desk_code : Coded DeskValue
desk_code =
    code_by (Timeline × (List (ℕ × Point) × (Bool × (List Entry × ℕ))))
    (coded× timeline_code (coded× (coded_list (coded× coded_ℕ coded_point))
    (coded× coded_bool (coded× (coded_list coded_entry) coded_ℕ))))
    (λ d. (d.history, (d.breaks, (d.paused, (d.journal, d.lanes)))))
    (λ p. record { history = p.0; breaks = p.1.0; paused = p.1.1.0; journal = p.1.1.1.0; lanes = p.1.1.1.1 })
    (λ _. refl)

-- nothing was said yet
abbrev pub opened_desk : ManifestValue → ℕ → State → ℕ → DeskValue
opened_desk manifest jobs state lanes =
    record { history = opened manifest jobs state; breaks = []; paused = false; journal = []; lanes = lanes }

abbrev pub desk_state_of : DeskValue → DeskStateValue
desk_state_of d = record { history = d.history; breaks = d.breaks; paused = d.paused }

-- the number of the next entry; they count from 1
abbrev pub next_number : DeskValue → ℕ
next_number d = length d.journal + 1

-- THE STEP
-- why there is no event of that name, or why it is refused
abbrev pub refused_by : (ℕ → Option Refusal) → Option ℕ → Option Refusal
refused_by why None = Some NoSuchEvent
refused_by why (Some n) = why n

-- why a command is refused, where `m` is what it names
abbrev pub refusal_on : DeskStateValue → Option ℕ → Command → Option Refusal
refusal_on s m (command.Event e) = if s.paused then Some Paused else accept_refusal s.history e
refusal_on s m (command.Undo w) = refused_by (undo_refusal s.history) m
refusal_on s m (command.Redo w) = refused_by (redo_refusal s.history) m
refusal_on s m command.Back = back_refusal s.history
refusal_on s m (command.Cone w) = refused_by (cone_refusal s.history) m
refusal_on s m (command.Break p) = if is_none (point_break_key s.history.manifest p) then Some NoSuchEdge else None
refusal_on s m (command.Unbreak b) = if stands s.breaks b then None else Some NoSuchBreak
refusal_on s m command.Continue = None

-- the reply to a command that is not refused, whose entry has the number n
abbrev pub answer_on : DeskStateValue → ℕ → Option ℕ → Command → Reply
answer_on s n m (command.Event e) = reply.Accepted n (least_met s.history.manifest e s.breaks)
answer_on s n m (command.Cone w) = reply.Coned n (length (cone_numbers (unwrap_or m 0) s.history))
answer_on s n m _ = reply.Accepted n None

-- what it changes
abbrev pub moved_on : DeskStateValue → ℕ → Option ℕ → Command → DeskStateValue
moved_on s n m (command.Event e) =
    record s { history = accepted_as n e s.history; paused = is_some (least_met s.history.manifest e s.breaks) }
moved_on s n m (command.Undo w) = record s { history = undone (unwrap_or m 0) s.history }
moved_on s n m (command.Redo w) = record s { history = redone (unwrap_or m 0) s.history }
moved_on s n m command.Back = record s { history = undone (unwrap_or (greatest_kept s.history) 0) s.history }
moved_on s n m (command.Cone w) = record s { history = coned (unwrap_or m 0) s.history }
moved_on s n m (command.Break p) = record s { breaks = s.breaks ++ (n, p) ∷ [] }
moved_on s n m (command.Unbreak b) = record s { breaks = without_break b s.breaks }
moved_on s n m command.Continue = record s { paused = false }

abbrev pub reply_by : Reply → Option Refusal → Reply
reply_by answer None = answer
reply_by answer (Some r) = reply.Refused r

abbrev pub moved_by : DeskStateValue → DeskStateValue → Option Refusal → DeskStateValue
moved_by old new None = new
moved_by old new (Some r) = old

abbrev pub reply_on : DeskStateValue → ℕ → Option ℕ → Command → Reply
reply_on s n m c = reply_by (answer_on s n m c) (refusal_on s m c)

-- A refused command changes nothing.
abbrev pub desk_state_after : DeskStateValue → ℕ → Option ℕ → Command → DeskStateValue
desk_state_after s n m c = moved_by s (moved_on s n m c) (refusal_on s m c)

-- why a command is refused now
abbrev pub refusal_of : DeskValue → Command → Option Refusal
refusal_of d c = refusal_on (desk_state_of d) (target d.journal c) c

-- The reply to a command, which is the same for every lane.
abbrev pub reply_to : DeskValue → Command → Reply
reply_to d c = reply_on (desk_state_of d) (next_number d) (target d.journal c) c

abbrev pub entry_of : DeskValue → ℕ → Command → Entry
entry_of d lane c = record { lane = lane; command = c; reply = reply_to d c }

abbrev pub with_desk_state : DeskValue → DeskStateValue → Entry → DeskValue
with_desk_state d s e =
    record {
      history = s.history;
      breaks = s.breaks;
      paused = s.paused;
      journal = d.journal ++ e ∷ [];
      lanes = d.lanes;
    }

-- The desk after a command of a lane, which has one entry more, also where the command is refused.
abbrev pub after : DeskValue → ℕ → Command → DeskValue
after d lane c = with_desk_state d (desk_state_after (desk_state_of d) (next_number d) (target d.journal c) c) (entry_of d lane c)
