-- The lines that say commands.
use Rattle.std.specs.Prelude.{ℕ, ◌^◌, ◌<◌, codes, decimal, map, length, All, IfSome, List, [], ◌∷◌, ◌++◌, Option, Some, None}
use Rattle.rev_paths.specs.Canonical.{IsCanonical}
use Rattle.rev_events.specs.declared.event.Event.{Event}
use Rattle.rev_events.specs.declared.event.Event.TheVariants as event
use Rattle.rev_events.specs.declared.event.Listing.{Listing}
use Rattle.rev_events.specs.declared.event.Listing.TheVariants as listing
use Rattle.rev_fields.specs.Fields.{field_text, line_of}
use Rattle.rev_fields.specs.Numbers.{numbers_text}
use Rattle.rev_commands.specs.declared.command.Command.{Command}
use Rattle.rev_commands.specs.declared.command.Command.TheVariants as command
use Rattle.rev_commands.specs.declared.point.Point.{Point}
use Rattle.rev_commands.specs.declared.point.Point.TheVariants as point
use Rattle.rev_commands.specs.declared.which.Which.{Which}
use Rattle.rev_commands.specs.declared.which.Which.TheVariants as which
use Rattle.rev_trace.specs.declared.verb.Verb.TheVariants as verb
use Rattle.rev_trace.specs.Commands.{word_of}

-- paths as fields
abbrev pub path_fields : List (List ℕ) → List (List ℕ)
path_fields paths = map field_text paths

-- a number as a field, if there is one
abbrev pub number_fields : Option ℕ → List (List ℕ)
number_fields None = []
number_fields (Some n) = decimal n ∷ []

abbrev pub listing_fields : Listing → List (List ℕ)
listing_fields listing.Nothing = []
listing_fields (listing.Depfile text) = codes "depfile" ∷ field_text text ∷ []
listing_fields (listing.Paths paths) = codes "list" ∷ path_fields paths

abbrev pub event_fields : Event → List (List ℕ)
event_fields (event.Plan targets) = word_of verb.Plan ∷ path_fields targets
event_fields (event.Start out job slot) = word_of verb.Start ∷ field_text out ∷ decimal job ∷ number_fields slot
event_fields (event.Finish out stamps l) = word_of verb.Finish ∷ field_text out ∷ numbers_text stamps ∷ listing_fields l
event_fields (event.Fail out stamps) = word_of verb.Fail ∷ field_text out ∷ numbers_text stamps ∷ []
event_fields (event.Abort out stamps) = word_of verb.Abort ∷ field_text out ∷ numbers_text stamps ∷ []
event_fields (event.Clean out) = word_of verb.Clean ∷ field_text out ∷ []
event_fields (event.Pass out) = word_of verb.Pass ∷ field_text out ∷ []
event_fields (event.Touch path stamp) = word_of verb.Touch ∷ field_text path ∷ decimal stamp ∷ []
event_fields event.Interrupt = word_of verb.Interrupt ∷ []
event_fields (event.Resize pool depth) = word_of verb.Resize ∷ decimal pool ∷ decimal depth ∷ []

-- the name of an event
abbrev pub which_text : Which → List ℕ
which_text (which.Number n) = decimal n
which_text (which.Label lane place) = decimal lane ++ 58 ∷ decimal place

-- what a break waits for
abbrev pub point_fields : Point → List (List ℕ)
point_fields (point.Start out) = word_of verb.Start ∷ field_text out ∷ []
point_fields (point.Finish out) = word_of verb.Finish ∷ field_text out ∷ []
point_fields (point.Fail out) = word_of verb.Fail ∷ field_text out ∷ []
point_fields (point.Abort out) = word_of verb.Abort ∷ field_text out ∷ []
point_fields (point.Clean out) = word_of verb.Clean ∷ field_text out ∷ []
point_fields (point.Pass out) = word_of verb.Pass ∷ field_text out ∷ []
point_fields (point.Touch path) = word_of verb.Touch ∷ field_text path ∷ []
point_fields point.Plan = word_of verb.Plan ∷ []
point_fields point.Interrupt = word_of verb.Interrupt ∷ []

abbrev pub command_fields : Command → List (List ℕ)
command_fields (command.Event e) = event_fields e
command_fields (command.Undo w) = word_of verb.Undo ∷ which_text w ∷ []
command_fields (command.Redo w) = word_of verb.Redo ∷ which_text w ∷ []
command_fields (command.Cone w) = word_of verb.Cone ∷ which_text w ∷ []
command_fields command.Back = word_of verb.Back ∷ []
command_fields (command.Break p) = word_of verb.Break ∷ point_fields p
command_fields (command.Unbreak n) = word_of verb.Unbreak ∷ decimal n ∷ []
command_fields command.Continue = word_of verb.Continue ∷ []

-- the line that says a command
abbrev pub command_text : Command → List ℕ
command_text c = line_of (command_fields c)

abbrev pub event_text : Event → List ℕ
event_text e = line_of (event_fields e)

-- What holds of commands as values: paths are canonical, and numbers are within their types.

abbrev pub IsShort : ℕ → Type 0
IsShort n = n < 2 ^ 32

abbrev pub IsLong : ℕ → Type 0
IsLong n = n < 2 ^ 64

abbrev pub IsListing : Listing → Type 0
IsListing listing.Nothing = Unit {0}
IsListing (listing.Depfile text) = Unit {0}
IsListing (listing.Paths paths) = All IsCanonical paths

abbrev pub IsEvent : Event → Type 0
IsEvent (event.Plan targets) = All IsCanonical targets
IsEvent (event.Start out job slot) = IsCanonical out × IsShort job × IfSome slot IsShort
IsEvent (event.Finish out stamps l) = IsCanonical out × All IsLong stamps × IsListing l
IsEvent (event.Fail out stamps) = IsCanonical out × All IsLong stamps
IsEvent (event.Abort out stamps) = IsCanonical out × All IsLong stamps
IsEvent (event.Clean out) = IsCanonical out
IsEvent (event.Pass out) = IsCanonical out
IsEvent (event.Touch path stamp) = IsCanonical path × IsLong stamp
IsEvent event.Interrupt = Unit {0}
IsEvent (event.Resize pool depth) = IsShort pool × IsShort depth

abbrev pub IsWhich : Which → Type 0
IsWhich (which.Number n) = IsShort n
IsWhich (which.Label lane place) = IsShort lane × IsShort place

abbrev pub IsPoint : Point → Type 0
IsPoint (point.Start out) = IsCanonical out
IsPoint (point.Finish out) = IsCanonical out
IsPoint (point.Fail out) = IsCanonical out
IsPoint (point.Abort out) = IsCanonical out
IsPoint (point.Clean out) = IsCanonical out
IsPoint (point.Pass out) = IsCanonical out
IsPoint (point.Touch path) = IsCanonical path
IsPoint point.Plan = Unit {0}
IsPoint point.Interrupt = Unit {0}

abbrev pub IsCommand : Command → Type 0
IsCommand (command.Event e) = IsEvent e
IsCommand (command.Undo w) = IsWhich w
IsCommand (command.Redo w) = IsWhich w
IsCommand (command.Cone w) = IsWhich w
IsCommand command.Back = Unit {0}
IsCommand (command.Break p) = IsPoint p
IsCommand (command.Unbreak n) = IsShort n
IsCommand command.Continue = Unit {0}

-- no list of stamps is empty
abbrev pub EventHasStamps : Event → Type 0
EventHasStamps (event.Finish out stamps l) = 0 < length stamps
EventHasStamps (event.Fail out stamps) = 0 < length stamps
EventHasStamps (event.Abort out stamps) = 0 < length stamps
EventHasStamps _ = Unit {0}

abbrev pub HasStamps : Command → Type 0
HasStamps (command.Event e) = EventHasStamps e
HasStamps _ = Unit {0}
