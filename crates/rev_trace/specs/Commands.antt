-- What a line says that is a command: a word, and then what that word takes.
use Rattle.std.specs.Prelude.{ℕ, ◌^◌, ◌==◌, if◌then◌else◌, bytes_eq, codes, find, List, [], ◌∷◌, Option, Some, None, Result, Ok, Err}
use Rattle.std.specs.List.{slice_split}
use Rattle.rev_commands.specs.declared.command.Command.{Command}
use Rattle.rev_commands.specs.declared.command.Command.TheVariants as command
use Rattle.rev_commands.specs.declared.point.Point.{Point}
use Rattle.rev_commands.specs.declared.point.Point.TheVariants as point
use Rattle.rev_commands.specs.declared.which.Which.{Which}
use Rattle.rev_commands.specs.declared.which.Which.TheVariants as which
use Rattle.rev_events.specs.declared.event.Event.{Event}
use Rattle.rev_events.specs.declared.event.Event.TheVariants as event
use Rattle.rev_events.specs.declared.event.Listing.{Listing}
use Rattle.rev_events.specs.declared.event.Listing.TheVariants as listing
use Rattle.rev_fields.specs.declared.faults.FaultKind.{FaultKind}
use Rattle.rev_fields.specs.declared.faults.FaultKind.TheVariants.{Syntax, Number}
use Rattle.rev_fields.specs.Faults.{◌>>=◌}
use Rattle.rev_fields.specs.Fields.{texts_of}
use Rattle.rev_fields.specs.Lines.{path_of, paths_of, read_as}
use Rattle.rev_fields.specs.Numbers.{number_below, numbers_below}
use Rattle.rev_trace.specs.declared.verb.Verb.{Verb}
use Rattle.rev_trace.specs.declared.verb.Verb.TheVariants as verb

-- the words that commands begin with

abbrev pub word_of : Verb → List ℕ
word_of verb.Plan = codes "plan"
word_of verb.Start = codes "start"
word_of verb.Finish = codes "finish"
word_of verb.Fail = codes "fail"
word_of verb.Abort = codes "abort"
word_of verb.Clean = codes "clean"
word_of verb.Pass = codes "pass"
word_of verb.Touch = codes "touch"
word_of verb.Interrupt = codes "interrupt"
word_of verb.Resize = codes "resize"
word_of verb.Undo = codes "undo"
word_of verb.Redo = codes "redo"
word_of verb.Cone = codes "cone"
word_of verb.Back = codes "back"
word_of verb.Break = codes "break"
word_of verb.Unbreak = codes "unbreak"
word_of verb.Continue = codes "continue"

abbrev pub verbs : List Verb
verbs =
    verb.Plan ∷ verb.Start ∷ verb.Finish ∷ verb.Fail ∷ verb.Abort ∷ verb.Clean ∷ verb.Pass ∷ verb.Touch ∷ verb.Interrupt
    ∷ verb.Resize ∷ verb.Undo ∷ verb.Redo ∷ verb.Cone ∷ verb.Back ∷ verb.Break ∷ verb.Unbreak ∷ verb.Continue ∷ []

abbrev pub verb_of : List ℕ → Option Verb
verb_of word = find (λ v. bytes_eq word (word_of v)) verbs

-- numbers: job, slot, pool, depth and event have 32 bits, stamps 64

abbrev pub short : List ℕ → Result ℕ FaultKind
short text = number_below (2 ^ 32) text

abbrev pub long : List ℕ → Result ℕ FaultKind
long text = number_below (2 ^ 64) text

-- `plan PATH...`; without a path these targets
abbrev pub plan_of : List (List ℕ) → List (List ℕ) → Result Command FaultKind
plan_of targets [] = Ok (command.Event (event.Plan targets))
plan_of targets (path ∷ paths) = paths_of (path ∷ paths) >>= λ names. Ok (command.Event (event.Plan names))

-- `start OUT JOB [SLOT]`
abbrev pub start_of : List (List ℕ) → Result Command FaultKind
start_of [] = Err Syntax
start_of (out ∷ []) = Err Syntax
start_of (out ∷ job ∷ []) = path_of out >>= λ o. short job >>= λ j. Ok (command.Event (event.Start o j None))
start_of (out ∷ job ∷ slot ∷ []) =
    path_of out >>= λ o. short job >>= λ j. short slot >>= λ s. Ok (command.Event (event.Start o j (Some s)))
start_of (out ∷ job ∷ slot ∷ more ∷ rest) = Err Syntax

-- `depfile TEXT`
abbrev pub depfile_of : List (List ℕ) → Result Listing FaultKind
depfile_of [] = Err Syntax
depfile_of (text ∷ []) = Ok (listing.Depfile text)
depfile_of (text ∷ more ∷ rest) = Err Syntax

-- `list PATH...`
abbrev pub list_of : List (List ℕ) → Result Listing FaultKind
list_of texts = paths_of texts >>= λ names. Ok (listing.Paths names)

-- nothing, `depfile TEXT` or `list PATH...`
abbrev pub listing_of : List (List ℕ) → Result Listing FaultKind
listing_of [] = Ok listing.Nothing
listing_of (word ∷ rest) =
    if bytes_eq word (codes "depfile") then depfile_of rest
    else (if bytes_eq word (codes "list") then list_of rest else Err Syntax)

-- `finish OUT N,N...` and a listing
abbrev pub finish_of : List (List ℕ) → Result Command FaultKind
finish_of [] = Err Syntax
finish_of (out ∷ []) = Err Syntax
finish_of (out ∷ stamps ∷ rest) =
    path_of out >>= λ o. listing_of rest >>= λ l. numbers_below (2 ^ 64) stamps >>= λ ns.
    Ok (command.Event (event.Finish o ns l))

-- an output and stamps: `OUT N,N...`
abbrev pub ending_of : List (List ℕ) → Result (List ℕ × List ℕ) FaultKind
ending_of [] = Err Syntax
ending_of (out ∷ []) = Err Syntax
ending_of (out ∷ stamps ∷ []) = path_of out >>= λ o. numbers_below (2 ^ 64) stamps >>= λ ns. Ok (o, ns)
ending_of (out ∷ stamps ∷ more ∷ rest) = Err Syntax

abbrev pub ended_of : (List ℕ → List ℕ → Event) → List (List ℕ) → Result Command FaultKind
ended_of make texts = ending_of texts >>= λ e. Ok (command.Event (make e.0 e.1))

-- an output alone: `OUT`
abbrev pub alone_of : List (List ℕ) → Result (List ℕ) FaultKind
alone_of [] = Err Syntax
alone_of (text ∷ []) = path_of text
alone_of (text ∷ more ∷ rest) = Err Syntax

abbrev pub settled_of : (List ℕ → Event) → List (List ℕ) → Result Command FaultKind
settled_of make texts = alone_of texts >>= λ o. Ok (command.Event (make o))

-- `touch PATH N`
abbrev pub touch_of : List (List ℕ) → Result Command FaultKind
touch_of [] = Err Syntax
touch_of (path ∷ []) = Err Syntax
touch_of (path ∷ stamp ∷ []) = path_of path >>= λ p. long stamp >>= λ n. Ok (command.Event (event.Touch p n))
touch_of (path ∷ stamp ∷ more ∷ rest) = Err Syntax

-- `resize POOL DEPTH`
abbrev pub resize_of : List (List ℕ) → Result Command FaultKind
resize_of [] = Err Syntax
resize_of (pool ∷ []) = Err Syntax
resize_of (pool ∷ depth ∷ []) = short pool >>= λ p. short depth >>= λ d. Ok (command.Event (event.Resize p d))
resize_of (pool ∷ depth ∷ more ∷ rest) = Err Syntax

-- nothing more
abbrev pub nothing_of : List (List ℕ) → Result (Unit {0}) FaultKind
nothing_of [] = Ok tt
nothing_of (more ∷ rest) = Err Syntax

-- a word that stands alone
abbrev pub bare_of : {T : Type 0} → T → List (List ℕ) → Result T FaultKind
bare_of said texts = nothing_of texts >>= λ none. Ok said

-- `LANE:PLACE`, the place of an entry among those of a lane, by its parts
abbrev pub label_of : List ℕ → List ℕ → Result Which FaultKind
label_of lane place = short lane >>= λ l. short place >>= λ p. Ok (which.Label l p)

-- the name of an event, by the parts of its text between colons: `N` is its number, `LANE:PLACE` a label
abbrev pub which_in : List (List ℕ) → Result Which FaultKind
which_in [] = Err Number
which_in (number ∷ []) = short number >>= λ n. Ok (which.Number n)
which_in (lane ∷ place ∷ []) = label_of lane place
which_in (lane ∷ place ∷ more ∷ rest) = Err Number

abbrev pub which_of : List ℕ → Result Which FaultKind
which_of text = which_in (slice_split (λ b. b == 58) text)

-- `undo WHICH` and the like: the name of an event alone
abbrev pub name_of : List (List ℕ) → Result Which FaultKind
name_of [] = Err Syntax
name_of (text ∷ []) = which_of text
name_of (text ∷ more ∷ rest) = Err Syntax

abbrev pub named_of : (Which → Command) → List (List ℕ) → Result Command FaultKind
named_of make texts = name_of texts >>= λ w. Ok (make w)

-- the number of a break alone
abbrev pub break_number_of : List (List ℕ) → Result ℕ FaultKind
break_number_of [] = Err Syntax
break_number_of (number ∷ []) = short number
break_number_of (number ∷ more ∷ rest) = Err Syntax

-- `unbreak N`
abbrev pub unbreak_of : List (List ℕ) → Result Command FaultKind
unbreak_of texts = break_number_of texts >>= λ n. Ok (command.Unbreak n)

-- a kind of event, and the output or path of its edge or file
abbrev pub pointed_of : (List ℕ → Point) → List (List ℕ) → Result Point FaultKind
pointed_of make texts = alone_of texts >>= λ name. Ok (make name)

-- what a break waits for, by the word of the events that it is for
abbrev pub point_by : Verb → List (List ℕ) → Result Point FaultKind
point_by verb.Plan texts = bare_of point.Plan texts
point_by verb.Start texts = pointed_of point.Start texts
point_by verb.Finish texts = pointed_of point.Finish texts
point_by verb.Fail texts = pointed_of point.Fail texts
point_by verb.Abort texts = pointed_of point.Abort texts
point_by verb.Clean texts = pointed_of point.Clean texts
point_by verb.Pass texts = pointed_of point.Pass texts
point_by verb.Touch texts = pointed_of point.Touch texts
point_by verb.Interrupt texts = bare_of point.Interrupt texts
point_by _ texts = Err Syntax

abbrev pub point_by_any : Option Verb → List (List ℕ) → Result Point FaultKind
point_by_any None texts = Err Syntax
point_by_any (Some v) texts = point_by v texts

abbrev pub point_of : List (List ℕ) → Result Point FaultKind
point_of [] = Err Syntax
point_of (word ∷ texts) = point_by_any (verb_of word) texts

-- `break KIND OUT`, `break touch PATH`, `break plan`, `break interrupt`
abbrev pub break_of : List (List ℕ) → Result Command FaultKind
break_of texts = point_of texts >>= λ p. Ok (command.Break p)

-- what a word takes
abbrev pub taken_by : List (List ℕ) → Verb → List (List ℕ) → Result Command FaultKind
taken_by targets verb.Plan texts = plan_of targets texts
taken_by targets verb.Start texts = start_of texts
taken_by targets verb.Finish texts = finish_of texts
taken_by targets verb.Fail texts = ended_of event.Fail texts
taken_by targets verb.Abort texts = ended_of event.Abort texts
taken_by targets verb.Clean texts = settled_of event.Clean texts
taken_by targets verb.Pass texts = settled_of event.Pass texts
taken_by targets verb.Touch texts = touch_of texts
taken_by targets verb.Interrupt texts = bare_of (command.Event event.Interrupt) texts
taken_by targets verb.Resize texts = resize_of texts
taken_by targets verb.Undo texts = named_of command.Undo texts
taken_by targets verb.Redo texts = named_of command.Redo texts
taken_by targets verb.Cone texts = named_of command.Cone texts
taken_by targets verb.Back texts = bare_of command.Back texts
taken_by targets verb.Break texts = break_of texts
taken_by targets verb.Unbreak texts = unbreak_of texts
taken_by targets verb.Continue texts = bare_of command.Continue texts

abbrev pub taken_by_any : List (List ℕ) → Option Verb → List (List ℕ) → Result Command FaultKind
taken_by_any targets None texts = Err Syntax
taken_by_any targets (Some v) texts = taken_by targets v texts

-- a command, where the fields have these texts
abbrev pub command_of : List (List ℕ) → List (List ℕ) → Result Command FaultKind
command_of targets [] = Err Syntax
command_of targets (word ∷ texts) = taken_by_any targets (verb_of word) texts

-- the command that a line is, where `plan` without a path means these targets
abbrev pub command_line : List (List ℕ) → List ℕ → Result Command FaultKind
command_line targets line = read_as (command_of targets) (texts_of line)
