-- Why an event is refused: the numbers of refusals, and each refusal by one test of its own.
use Rattle.std.specs.Prelude.{◌≡◌, ℕ, ◌==◌, nat_lt, Bool, true, false, not, ◌&&◌, ◌||◌, List, [], ◌∷◌, length, Option, Some, None, unwrap_or}
use Rattle.std.specs.Option.{option_map}
use Rattle.rev_cells.specs.declared.mark.Mark.{Mark}
use Rattle.rev_cells.specs.declared.mark.Mark.TheVariants as mark
use Rattle.rev_manifest.specs.Manifest.{BuildValue}
use Rattle.rev_graph.specs.Graph.{outputs_of}
use Rattle.rev_dirty.specs.declared.reason.Reason.{Reason}
use Rattle.rev_dirty.specs.Reasons.{kind_of}
use Rattle.rev_depfile.specs.declared.fault.DepfileFault.{DepfileFault}
use Rattle.rev_depfile.specs.Fault as depfile
use Rattle.rev_depfile.specs.Value.{first_fault}
use Rattle.rev_plan.specs.Plan.{PlanRefusal, is_running_mark}
use Rattle.rev_plan.specs.Plan.{PlanRefusal.StillRunning as Running, PlanRefusal.UnknownTarget as Unknown, PlanRefusal.MissingInput as Lacking, PlanRefusal.DepsCycle as OnCycle}
use Rattle.rev_events.specs.declared.event.Listing.{Listing}
use Rattle.rev_events.specs.declared.event.Listing.TheVariants as listing
use Rattle.rev_events.specs.declared.refusal.Refusal.{Refusal}
use Rattle.rev_events.specs.declared.refusal.Refusal.TheVariants.{StillRunning, UnknownTarget, MissingInput, DepsCycle, NoSuchEdge, Phony, NotPhony, Halted, NotHalted, AlreadyHalted, NotWanted, NotRunning, Blocked, NotDirty, Dirty, NoSuchJob, JobBusy, PoolSlot, SlotBusy, WrongOutputs, UnexpectedDepfile, Depfile, DepthInUse, BadResize, NoSuchEvent, NotKept, DependedOn, AlreadyKept, NotNow, Overtaken, NothingKept, Paused, NoSuchBreak}

-- the number of a refusal
abbrev pub code_of : Refusal → ℕ
code_of (StillRunning edge) = 50
code_of (UnknownTarget position) = 51
code_of (MissingInput position edge) = 52
code_of (DepsCycle edge) = 53
code_of NoSuchEdge = 60
code_of Phony = 61
code_of NotPhony = 62
code_of Halted = 63
code_of NotHalted = 64
code_of AlreadyHalted = 65
code_of NotWanted = 66
code_of NotRunning = 67
code_of (Blocked position) = 68
code_of NotDirty = 69
code_of (Dirty kind) = 70
code_of NoSuchJob = 71
code_of (JobBusy edge) = 72
code_of PoolSlot = 73
code_of (SlotBusy edge) = 74
code_of (WrongOutputs count) = 75
code_of UnexpectedDepfile = 76
code_of (Depfile fault at) = 77
code_of (DepthInUse slot edge) = 78
code_of BadResize = 79
code_of NoSuchEvent = 80
code_of NotKept = 81
code_of (DependedOn number) = 82
code_of AlreadyKept = 83
code_of (NotNow refusal first) = 84
code_of (Overtaken number) = 85
code_of NothingKept = 86
code_of Paused = 92
code_of NoSuchBreak = 93

-- the first number that a refusal carries
abbrev pub first_number : Refusal → Option ℕ
first_number (StillRunning edge) = Some edge
first_number (UnknownTarget position) = Some position
first_number (MissingInput position edge) = Some position
first_number (DepsCycle edge) = Some edge
first_number (Blocked position) = Some position
first_number (Dirty kind) = Some kind
first_number (JobBusy edge) = Some edge
first_number (SlotBusy edge) = Some edge
first_number (WrongOutputs count) = Some count
first_number (Depfile fault at) = Some fault
first_number (DepthInUse slot edge) = Some slot
first_number (DependedOn number) = Some number
first_number (NotNow refusal first) = Some refusal
first_number (Overtaken number) = Some number
first_number _ = None

-- the second number that a refusal carries
abbrev pub second_number : Refusal → Option ℕ
second_number (MissingInput position edge) = Some edge
second_number (Depfile fault at) = Some at
second_number (DepthInUse slot edge) = Some edge
second_number (NotNow refusal first) = first
second_number _ = None

-- a redo is refused for what the event's own refusal is now: its number, and its first number where it has one
abbrev pub not_now : Refusal → Refusal
not_now refusal = NotNow (code_of refusal) (first_number refusal)

abbrev pub of_plan : PlanRefusal → Refusal
of_plan (Running edge) = StillRunning edge
of_plan (Unknown position) = UnknownTarget position
of_plan (Lacking position edge) = MissingInput position edge
of_plan (OnCycle edge) = DepsCycle edge

-- THE TESTS, each of the values that it asks for
abbrev pub refuse_if : Bool → Refusal → Option Refusal
refuse_if true r = Some r
refuse_if false r = None

abbrev pub is_wanted_mark : Mark → Bool
is_wanted_mark mark.Wanted = true
is_wanted_mark _ = false

abbrev pub is_through_mark : Mark → Bool
is_through_mark mark.Through = true
is_through_mark _ = false

abbrev pub is_settled : Mark → Bool
is_settled mark.Idle = true
is_settled (mark.Done changed) = true
is_settled mark.Clean = true
is_settled _ = false

-- the edge is phony
abbrev pub phony_edge : BuildValue → Option Refusal
phony_edge build = refuse_if build.phony Phony

-- the edge is wanted and not phony, so its command has to run
abbrev pub not_phony : BuildValue → Mark → Option Refusal
not_phony build m = refuse_if (is_wanted_mark m && not build.phony) NotPhony

-- the build was interrupted, or was not
abbrev pub halted : Bool → Option Refusal
halted is = refuse_if is Halted

abbrev pub not_halted : Bool → Option Refusal
not_halted is = refuse_if (not is) NotHalted

abbrev pub already_halted : Bool → Option Refusal
already_halted is = refuse_if is AlreadyHalted

-- the edge is not wanted; for a pass, it is not through either
abbrev pub not_wanted : Mark → Option Refusal
not_wanted m = refuse_if (not (is_wanted_mark m)) NotWanted

abbrev pub not_marked : Mark → Option Refusal
not_marked m = refuse_if (not (is_wanted_mark m || is_through_mark m)) NotWanted

-- its command does not run
abbrev pub not_running : Mark → Option Refusal
not_running m = refuse_if (not (is_running_mark m)) NotRunning

-- an input waits: the position of the first whose producer is not settled
abbrev pub blocked : Option ℕ → Option Refusal
blocked position = option_map Blocked position

-- the edge has no reason to run, or it has one: the kind of the first
abbrev pub not_dirty : List Reason → Option Refusal
not_dirty [] = Some NotDirty
not_dirty (r ∷ rs) = None

abbrev pub dirty : List Reason → Option Refusal
dirty [] = None
dirty (r ∷ rs) = Some (Dirty (kind_of r))

-- there are fewer jobs, or the job runs another command
abbrev pub no_such_job : ℕ → ℕ → Option Refusal
no_such_job jobs job = refuse_if (not (nat_lt job jobs)) NoSuchJob

abbrev pub job_busy : Option ℕ → Option Refusal
job_busy holder = option_map JobBusy holder

-- a slot where the edge has no pool with slots, none where it has one, or one past the last
abbrev pub pool_slot : Option (ℕ × ℕ) → Option ℕ → Option Refusal
pool_slot None None = None
pool_slot None (Some slot) = Some PoolSlot
pool_slot (Some pool) None = Some PoolSlot
pool_slot (Some pool) (Some slot) = refuse_if (not (nat_lt slot pool.1)) PoolSlot

-- the slot is taken
abbrev pub slot_busy : Option ℕ → Option Refusal
slot_busy holder = option_map SlotBusy holder

-- there is no such pool, or its present depth or the new one is not from 1 to 1,024
abbrev pub is_depth : ℕ → Bool
is_depth depth = nat_lt 0 depth && not (nat_lt 1024 depth)

abbrev pub bad_resize : Option ℕ → ℕ → Option Refusal
bad_resize None depth = Some BadResize
bad_resize (Some present) depth = refuse_if (not (is_depth present && is_depth depth)) BadResize

-- a slot is held that the pool would lose: the least one, and its holder
abbrev pub depth_in_use : Option (ℕ × ℕ) → Option Refusal
depth_in_use held = option_map (λ (at : ℕ × ℕ). DepthInUse at.0 at.1) held

-- not one stamp for each output
abbrev pub wrong_outputs : BuildValue → List ℕ → Option Refusal
wrong_outputs build stamps =
    refuse_if (not (length stamps == length (outputs_of build))) (WrongOutputs (length (outputs_of build)))

-- the files that a command read are listed, where its edge keeps no list
abbrev pub unexpected_listing : BuildValue → Listing → Option Refusal
unexpected_listing build listing.Nothing = None
unexpected_listing build (listing.Depfile text) = refuse_if (not build.keeps_deps) UnexpectedDepfile
unexpected_listing build (listing.Paths paths) = refuse_if (not build.keeps_deps) UnexpectedDepfile

-- the depfile has a fault for these outputs: its number, and where it stands
abbrev pub depfile_refusal : DepfileFault → Refusal
depfile_refusal fault = Depfile (unwrap_or (depfile.code_of fault) 0) (unwrap_or (depfile.offset_of fault) 0)

abbrev pub bad_depfile : BuildValue → Listing → Option Refusal
bad_depfile build listing.Nothing = None
bad_depfile build (listing.Depfile text) = option_map depfile_refusal (first_fault (outputs_of build) text)
bad_depfile build (listing.Paths paths) = None

-- the depfile that is given has none
abbrev pub HasNoFault : List (List ℕ) → Listing → Type 0
HasNoFault outputs listing.Nothing = Unit {0}
HasNoFault outputs (listing.Depfile text) = first_fault outputs text ≡ None
HasNoFault outputs (listing.Paths paths) = Unit {0}
