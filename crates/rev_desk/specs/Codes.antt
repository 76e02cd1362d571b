-- Entries and desks as data.
use Rattle.std.specs.Prelude.{◌≡◌, ◌⊎◌, ℕ, ◌==◌, Bool, true, false, List, [], Option, Some, None, unwrap_or, if◌then◌else◌, refl}
use Rattle.std.proofs.Common.{inl, inr}
use Rattle.std.specs.Coded.{Coded, code_by, coded×, coded⊎, coded_list, coded_option, coded_bool, coded_ℕ}
use Rattle.rev_events.specs.declared.event.Event.{Event}
use Rattle.rev_events.specs.declared.refusal.Refusal.{Refusal}
use Rattle.rev_events.specs.declared.refusal.Refusal.TheVariants as refusal
use Rattle.rev_events.specs.Codes.{coded_event}
use Rattle.rev_events.specs.Refusal.{code_of, first_number, second_number}
use Rattle.rev_commands.specs.declared.command.Command.{Command}
use Rattle.rev_commands.specs.declared.command.Command.TheVariants as command
use Rattle.rev_commands.specs.declared.point.Point.{Point}
use Rattle.rev_commands.specs.declared.point.Point.TheVariants as point
use Rattle.rev_commands.specs.declared.which.Which.{Which}
use Rattle.rev_commands.specs.declared.which.Which.TheVariants as which
use Rattle.rev_desk.specs.declared.reply.Reply.{Reply}
use Rattle.rev_desk.specs.declared.reply.Reply.TheVariants as reply
use Rattle.rev_desk.specs.declared.reply.Entry.{Entry}

-- the number of a refusal, and the numbers that it carries
abbrev pub RefusalParts : Type 0
RefusalParts = ℕ × (Option ℕ × Option ℕ)

abbrev pub refusal_parts : Refusal → RefusalParts
refusal_parts r = (code_of r, (first_number r, second_number r))

abbrev pub refusal_numbered : ℕ → ℕ → ℕ → Option ℕ → Refusal
refusal_numbered code first second last =
    if code == 50 then refusal.StillRunning first else if code == 51 then refusal.UnknownTarget first else if code == 52
    then refusal.MissingInput first second
    else if code == 53 then refusal.DepsCycle first else if code == 60 then refusal.NoSuchEdge else if code == 61
    then refusal.Phony else if code == 62 then refusal.NotPhony
    else if code == 63 then refusal.Halted else if code == 64 then refusal.NotHalted else if code == 65
    then refusal.AlreadyHalted else if code == 66 then refusal.NotWanted
    else if code == 67 then refusal.NotRunning else if code == 68 then refusal.Blocked first else if code == 69
    then refusal.NotDirty else if code == 70 then refusal.Dirty first
    else if code == 71 then refusal.NoSuchJob else if code == 72 then refusal.JobBusy first else if code == 73
    then refusal.PoolSlot else if code == 74 then refusal.SlotBusy first
    else if code == 75 then refusal.WrongOutputs first else if code == 76 then refusal.UnexpectedDepfile
    else if code == 77 then refusal.Depfile first second else if code == 78 then refusal.DepthInUse first second
    else if code == 79 then refusal.BadResize
    else if code == 80 then refusal.NoSuchEvent else if code == 81 then refusal.NotKept else if code == 82
    then refusal.DependedOn first else if code == 83 then refusal.AlreadyKept
    else if code == 84 then refusal.NotNow first last else if code == 85 then refusal.Overtaken first else if code == 86
    then refusal.NothingKept
    else if code == 92 then refusal.Paused else refusal.NoSuchBreak

abbrev pub refusal_of : RefusalParts → Refusal
refusal_of p = refusal_numbered p.0 (unwrap_or p.1.0 0) (unwrap_or p.1.1 0) p.1.1

pub refusal_of-refusal_parts : (r : Refusal) → refusal_of (refusal_parts r) ≡ r
refusal_of-refusal_parts (refusal.StillRunning a) = refl
refusal_of-refusal_parts (refusal.UnknownTarget a) = refl
refusal_of-refusal_parts (refusal.MissingInput a b) = refl
refusal_of-refusal_parts (refusal.DepsCycle a) = refl
refusal_of-refusal_parts refusal.NoSuchEdge = refl
refusal_of-refusal_parts refusal.Phony = refl
refusal_of-refusal_parts refusal.NotPhony = refl
refusal_of-refusal_parts refusal.Halted = refl
refusal_of-refusal_parts refusal.NotHalted = refl
refusal_of-refusal_parts refusal.AlreadyHalted = refl
refusal_of-refusal_parts refusal.NotWanted = refl
refusal_of-refusal_parts refusal.NotRunning = refl
refusal_of-refusal_parts (refusal.Blocked a) = refl
refusal_of-refusal_parts refusal.NotDirty = refl
refusal_of-refusal_parts (refusal.Dirty a) = refl
refusal_of-refusal_parts refusal.NoSuchJob = refl
refusal_of-refusal_parts (refusal.JobBusy a) = refl
refusal_of-refusal_parts refusal.PoolSlot = refl
refusal_of-refusal_parts (refusal.SlotBusy a) = refl
refusal_of-refusal_parts (refusal.WrongOutputs a) = refl
refusal_of-refusal_parts refusal.UnexpectedDepfile = refl
refusal_of-refusal_parts (refusal.Depfile a b) = refl
refusal_of-refusal_parts (refusal.DepthInUse a b) = refl
refusal_of-refusal_parts refusal.BadResize = refl
refusal_of-refusal_parts refusal.NoSuchEvent = refl
refusal_of-refusal_parts refusal.NotKept = refl
refusal_of-refusal_parts (refusal.DependedOn a) = refl
refusal_of-refusal_parts refusal.AlreadyKept = refl
refusal_of-refusal_parts (refusal.NotNow a b) = refl
refusal_of-refusal_parts (refusal.Overtaken a) = refl
refusal_of-refusal_parts refusal.NothingKept = refl
refusal_of-refusal_parts refusal.Paused = refl
refusal_of-refusal_parts refusal.NoSuchBreak = refl

abbrev pub coded_refusal : Coded Refusal
coded_refusal =
    code_by RefusalParts (coded× coded_ℕ (coded× (coded_option coded_ℕ) (coded_option coded_ℕ))) refusal_parts
    refusal_of
    refusal_of-refusal_parts

abbrev pub WhichParts : Type 0
WhichParts = ℕ ⊎ (ℕ × ℕ)

abbrev pub which_parts : Which → WhichParts
which_parts (which.Number n) = inl n
which_parts (which.Label lane place) = inr (lane, place)

abbrev pub which_of : WhichParts → Which
which_of (inl n) = which.Number n
which_of (inr p) = which.Label p.0 p.1

pub which_of-which_parts : (w : Which) → which_of (which_parts w) ≡ w
which_of-which_parts (which.Number n) = refl
which_of-which_parts (which.Label lane place) = refl

abbrev pub coded_which : Coded Which
coded_which = code_by WhichParts (coded⊎ coded_ℕ (coded× coded_ℕ coded_ℕ)) which_parts which_of which_of-which_parts

-- the kind of a point, and what it names
abbrev pub point_parts : Point → ℕ × List ℕ
point_parts (point.Start out) = (0, out)
point_parts (point.Finish out) = (1, out)
point_parts (point.Fail out) = (2, out)
point_parts (point.Abort out) = (3, out)
point_parts (point.Clean out) = (4, out)
point_parts (point.Pass out) = (5, out)
point_parts (point.Touch path) = (6, path)
point_parts point.Plan = (7, [])
point_parts point.Interrupt = (8, [])

abbrev pub point_numbered : ℕ → List ℕ → Point
point_numbered kind out =
    if kind == 0 then point.Start out else if kind == 1 then point.Finish out else if kind == 2 then point.Fail out
    else if kind == 3 then point.Abort out
    else if kind == 4 then point.Clean out else if kind == 5 then point.Pass out else if kind == 6 then point.Touch out
    else if kind == 7 then point.Plan else point.Interrupt

abbrev pub point_of : ℕ × List ℕ → Point
point_of p = point_numbered p.0 p.1

pub point_of-point_parts : (p : Point) → point_of (point_parts p) ≡ p
point_of-point_parts (point.Start out) = refl
point_of-point_parts (point.Finish out) = refl
point_of-point_parts (point.Fail out) = refl
point_of-point_parts (point.Abort out) = refl
point_of-point_parts (point.Clean out) = refl
point_of-point_parts (point.Pass out) = refl
point_of-point_parts (point.Touch path) = refl
point_of-point_parts point.Plan = refl
point_of-point_parts point.Interrupt = refl

abbrev pub coded_point : Coded Point
coded_point = code_by (ℕ × List ℕ) (coded× coded_ℕ (coded_list coded_ℕ)) point_parts point_of point_of-point_parts

abbrev pub CommandParts : Type 0
CommandParts = Event ⊎ (Which ⊎ (Which ⊎ (Which ⊎ (Point ⊎ (ℕ ⊎ Bool)))))

abbrev pub command_parts : Command → CommandParts
command_parts (command.Event e) = inl e
command_parts (command.Undo w) = inr (inl w)
command_parts (command.Redo w) = inr (inr (inl w))
command_parts (command.Cone w) = inr (inr (inr (inl w)))
command_parts (command.Break p) = inr (inr (inr (inr (inl p))))
command_parts (command.Unbreak n) = inr (inr (inr (inr (inr (inl n)))))
command_parts command.Back = inr (inr (inr (inr (inr (inr true)))))
command_parts command.Continue = inr (inr (inr (inr (inr (inr false)))))

abbrev pub command_of : CommandParts → Command
command_of (inl e) = command.Event e
command_of (inr (inl w)) = command.Undo w
command_of (inr (inr (inl w))) = command.Redo w
command_of (inr (inr (inr (inl w)))) = command.Cone w
command_of (inr (inr (inr (inr (inl p))))) = command.Break p
command_of (inr (inr (inr (inr (inr (inl n)))))) = command.Unbreak n
command_of (inr (inr (inr (inr (inr (inr true)))))) = command.Back
command_of (inr (inr (inr (inr (inr (inr false)))))) = command.Continue

pub command_of-command_parts : (c : Command) → command_of (command_parts c) ≡ c
command_of-command_parts (command.Event e) = refl
command_of-command_parts (command.Undo w) = refl
command_of-command_parts (command.Redo w) = refl
command_of-command_parts (command.Cone w) = refl
command_of-command_parts (command.Break p) = refl
command_of-command_parts (command.Unbreak n) = refl
command_of-command_parts command.Back = refl
command_of-command_parts command.Continue = refl

abbrev pub coded_command : Coded Command
coded_command =
    code_by CommandParts (coded⊎ coded_event
    (coded⊎ coded_which (coded⊎ coded_which (coded⊎ coded_which (coded⊎ coded_point (coded⊎ coded_ℕ coded_bool))))))
    command_parts command_of command_of-command_parts

abbrev pub ReplyParts : Type 0
ReplyParts = (ℕ × Option ℕ) ⊎ ((ℕ × ℕ) ⊎ Refusal)

abbrev pub reply_parts : Reply → ReplyParts
reply_parts (reply.Accepted n b) = inl (n, b)
reply_parts (reply.Coned n count) = inr (inl (n, count))
reply_parts (reply.Refused r) = inr (inr r)

abbrev pub reply_of : ReplyParts → Reply
reply_of (inl p) = reply.Accepted p.0 p.1
reply_of (inr (inl p)) = reply.Coned p.0 p.1
reply_of (inr (inr r)) = reply.Refused r

pub reply_of-reply_parts : (r : Reply) → reply_of (reply_parts r) ≡ r
reply_of-reply_parts (reply.Accepted n b) = refl
reply_of-reply_parts (reply.Coned n count) = refl
reply_of-reply_parts (reply.Refused r) = refl

abbrev pub coded_reply : Coded Reply
coded_reply =
    code_by ReplyParts (coded⊎ (coded× coded_ℕ (coded_option coded_ℕ)) (coded⊎ (coded× coded_ℕ coded_ℕ) coded_refusal))
    reply_parts reply_of reply_of-reply_parts

abbrev pub coded_entry : Coded Entry
coded_entry =
    code_by (ℕ × (Command × Reply)) (coded× coded_ℕ (coded× coded_command coded_reply))
    (λ e. (e.lane, (e.command, e.reply))) (λ p. record { lane = p.0; command = p.1.0; reply = p.1.1 }) (λ _. refl)
