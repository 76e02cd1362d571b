-- Which lines say which commands and records: the tables of the lines of a trace, one row for each form.
use Rattle.std.specs.Prelude.{◌≡◌, ℕ, ◌^◌, ◌<◌, ◌≤◌, ◌⊎◌, codes, length, List, [], ◌∷◌, None, Some, Ok}
use Rattle.rev_cells.specs.declared.opening.TheConstants.Opening.{MAX_JOBS}
use Rattle.rev_commands.specs.declared.command.Command.{Command}
use Rattle.rev_commands.specs.declared.command.Command.TheVariants as command
use Rattle.rev_commands.specs.declared.point.Point.{Point}
use Rattle.rev_commands.specs.declared.point.Point.TheVariants as point
use Rattle.rev_commands.specs.declared.which.Which.{Which}
use Rattle.rev_events.specs.declared.event.Event.{Event}
use Rattle.rev_events.specs.declared.event.Event.TheVariants as event
use Rattle.rev_events.specs.declared.event.Listing.{Listing}
use Rattle.rev_events.specs.declared.event.Listing.TheVariants as listing
use Rattle.rev_fields.specs.Grammar.{AreNumbers, IsLine, IsNumber}
use Rattle.rev_fields.specs.Lines.{path_of, paths_of}
use Rattle.rev_trace.specs.declared.record.Record.{Record}
use Rattle.rev_trace.specs.declared.record.Record.TheVariants.{Jobs, Stamp, Built, Deps, Target}
use Rattle.rev_trace.specs.Texts.{IsWhich, which_text}

-- How the numbers of a line are looked at: exactly as they are written, or as if any text were one, so that only the
-- line's shape counts.
pub data Look : Type 0 where
  Exact : Look
  Shape : Look

-- a number below the limit
abbrev pub SaysNumber : Look → ℕ → List ℕ → ℕ → Type 0
SaysNumber Exact limit text n = IsNumber limit text n
SaysNumber Shape limit text n = Unit {0}

-- job, slot, pool, depth and event have 32 bits, stamps 64
abbrev pub SaysShort : Look → List ℕ → ℕ → Type 0
SaysShort look text n = SaysNumber look (2 ^ 32) text n

abbrev pub SaysLong : Look → List ℕ → ℕ → Type 0
SaysLong look text n = SaysNumber look (2 ^ 64) text n

-- stamps: `N,N...`
abbrev pub SaysStamps : Look → List ℕ → List ℕ → Type 0
SaysStamps Exact text stamps = AreNumbers (2 ^ 64) text stamps
SaysStamps Shape text stamps = Unit {0}

-- the number of jobs: 1 to 1,024
abbrev pub SaysJobs : Look → List ℕ → ℕ → Type 0
SaysJobs Exact text n = IsNumber (2 ^ 32) text n × (0 < n) × (n ≤ MAX_JOBS)
SaysJobs Shape text n = Unit {0}

-- the name of an event: `N`, or `LANE:PLACE`
abbrev pub SaysWhich : Look → List ℕ → Which → Type 0
SaysWhich Exact text w = (text ≡ which_text w) × IsWhich w
SaysWhich Shape text w = Unit {0}

-- `WORD PATH`
abbrev pub SaysPath : List ℕ → List (List ℕ) → List ℕ → Type 0
SaysPath word texts path = (text : List ℕ) × (texts ≡ word ∷ text ∷ []) × (path_of text ≡ Ok path)

-- `WORD WHICH`
abbrev pub SaysName : Look → List ℕ → List (List ℕ) → Which → Type 0
SaysName look word texts w = (text : List ℕ) × (texts ≡ word ∷ text ∷ []) × SaysWhich look text w

-- `WORD OUT N,N...`
abbrev pub SaysEnd : Look → List ℕ → List (List ℕ) → List ℕ → List ℕ → Type 0
SaysEnd look word texts out stamps =
    (text : List ℕ) × (numbers : List ℕ) × (texts ≡ word ∷ text ∷ numbers ∷ []) × (path_of text ≡ Ok out)
    × SaysStamps look numbers stamps

-- nothing, `depfile TEXT` or `list PATH...`
abbrev pub SaysListing : List (List ℕ) → Listing → Type 0
SaysListing texts listing.Nothing = texts ≡ []
SaysListing texts (listing.Depfile text) = texts ≡ codes "depfile" ∷ text ∷ []
SaysListing texts (listing.Paths paths) =
    (names : List (List ℕ)) × (texts ≡ codes "list" ∷ names) × (paths_of names ≡ Ok paths)

-- the paths of a plan: those that are named, and these targets where none is
abbrev pub SaysTargets : List (List ℕ) → List (List ℕ) → List (List ℕ) → Type 0
SaysTargets targets names paths =
    ((names ≡ []) × (paths ≡ targets)) ⊎ ((0 < length names) × (paths_of names ≡ Ok paths))

abbrev pub SaysEvent : Look → List (List ℕ) → List (List ℕ) → Event → Type 0
SaysEvent look targets texts (event.Plan paths) =
    (names : List (List ℕ)) × (texts ≡ codes "plan" ∷ names) × SaysTargets targets names paths
SaysEvent look targets texts (event.Start out job None) =
    (text : List ℕ) × (number : List ℕ) × (texts ≡ codes "start" ∷ text ∷ number ∷ []) × (path_of text ≡ Ok out)
    × SaysShort look number job
SaysEvent look targets texts (event.Start out job (Some slot)) =
    (text : List ℕ) × (number : List ℕ) × (place : List ℕ) × (texts ≡ codes "start" ∷ text ∷ number ∷ place ∷ [])
    × (path_of text ≡ Ok out)
    × SaysShort look number job × SaysShort look place slot
SaysEvent look targets texts (event.Finish out stamps l) =
    (text : List ℕ) × (numbers : List ℕ) × (rest : List (List ℕ)) × (texts ≡ codes "finish" ∷ text ∷ numbers ∷ rest)
    × (path_of text ≡ Ok out)
    × SaysStamps look numbers stamps × SaysListing rest l
SaysEvent look targets texts (event.Fail out stamps) = SaysEnd look (codes "fail") texts out stamps
SaysEvent look targets texts (event.Abort out stamps) = SaysEnd look (codes "abort") texts out stamps
SaysEvent look targets texts (event.Clean out) = SaysPath (codes "clean") texts out
SaysEvent look targets texts (event.Pass out) = SaysPath (codes "pass") texts out
SaysEvent look targets texts (event.Touch path stamp) =
    (text : List ℕ) × (number : List ℕ) × (texts ≡ codes "touch" ∷ text ∷ number ∷ []) × (path_of text ≡ Ok path)
    × SaysLong look number stamp
SaysEvent look targets texts event.Interrupt = texts ≡ codes "interrupt" ∷ []
SaysEvent look targets texts (event.Resize pool depth) =
    (number : List ℕ) × (other : List ℕ) × (texts ≡ codes "resize" ∷ number ∷ other ∷ []) × SaysShort look number pool
    × SaysShort look other depth

-- `KIND OUT`, `touch PATH`, `plan`, `interrupt`
abbrev pub SaysPoint : List (List ℕ) → Point → Type 0
SaysPoint texts (point.Start out) = SaysPath (codes "start") texts out
SaysPoint texts (point.Finish out) = SaysPath (codes "finish") texts out
SaysPoint texts (point.Fail out) = SaysPath (codes "fail") texts out
SaysPoint texts (point.Abort out) = SaysPath (codes "abort") texts out
SaysPoint texts (point.Clean out) = SaysPath (codes "clean") texts out
SaysPoint texts (point.Pass out) = SaysPath (codes "pass") texts out
SaysPoint texts (point.Touch path) = SaysPath (codes "touch") texts path
SaysPoint texts point.Plan = texts ≡ codes "plan" ∷ []
SaysPoint texts point.Interrupt = texts ≡ codes "interrupt" ∷ []

-- whether fields with these texts say a command, where `plan` without a path means these targets
abbrev pub SaysCommand : Look → List (List ℕ) → List (List ℕ) → Command → Type 0
SaysCommand look targets texts (command.Event e) = SaysEvent look targets texts e
SaysCommand look targets texts (command.Undo w) = SaysName look (codes "undo") texts w
SaysCommand look targets texts (command.Redo w) = SaysName look (codes "redo") texts w
SaysCommand look targets texts (command.Cone w) = SaysName look (codes "cone") texts w
SaysCommand look targets texts command.Back = texts ≡ codes "back" ∷ []
SaysCommand look targets texts (command.Break p) =
    (rest : List (List ℕ)) × (texts ≡ codes "break" ∷ rest) × SaysPoint rest p
SaysCommand look targets texts (command.Unbreak n) =
    (text : List ℕ) × (texts ≡ codes "unbreak" ∷ text ∷ []) × SaysShort look text n
SaysCommand look targets texts command.Continue = texts ≡ codes "continue" ∷ []

-- whether a line says a command
abbrev pub LineSays : Look → List (List ℕ) → List ℕ → Command → Type 0
LineSays look targets line c = (texts : List (List ℕ)) × IsLine line texts × SaysCommand look targets texts c

-- whether fields with these texts say a record of the opening
abbrev pub SaysRecord : Look → List (List ℕ) → Record → Type 0
SaysRecord look texts (Jobs n) = (number : List ℕ) × (texts ≡ codes "jobs" ∷ number ∷ []) × SaysJobs look number n
SaysRecord look texts (Stamp path n) =
    (text : List ℕ) × (number : List ℕ) × (texts ≡ codes "stamp" ∷ text ∷ number ∷ []) × (path_of text ≡ Ok path)
    × SaysLong look number n
SaysRecord look texts (Built path n command) =
    (text : List ℕ) × (number : List ℕ) × (texts ≡ codes "built" ∷ text ∷ number ∷ command ∷ [])
    × (path_of text ≡ Ok path) × SaysLong look number n
SaysRecord look texts (Deps path n paths) =
    (text : List ℕ) × (number : List ℕ) × (names : List (List ℕ)) × (texts ≡ codes "deps" ∷ text ∷ number ∷ names)
    × (path_of text ≡ Ok path)
    × (paths_of names ≡ Ok paths) × SaysLong look number n
SaysRecord look texts (Target path) = SaysPath (codes "target") texts path
