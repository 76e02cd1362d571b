-- Which event a name means.
use Rattle.std.specs.Prelude.{◌≡◌, ℕ, ◌||◌, ◌&&◌, Bool, true, false, bytes_eq, codes, find, reverse, IsSome, List, [], ◌∷◌, ◌++◌, Option, Some, None, option_and_then, Result, Ok, Err}
use Rattle.std.specs.Global.{Vec}
use Rattle.rev_desk.specs.Machine.{DeskValue}
use Rattle.rev_desk.specs.Names.{named}
use Rattle.rev_events.specs.declared.event.Event.{Event}
use Rattle.rev_events.specs.declared.event.Event.TheVariants as event
use Rattle.rev_graph.specs.Graph.{producer_of}
use Rattle.rev_history.specs.Timeline.{Timeline, event_at}
use Rattle.rev_manifest.specs.Manifest.{BuildValue}
use Rattle.rev_runs.specs.Edges.{edge_of_event, is_edge}
use Rattle.rev_prompt.specs.declared.answers.Answer.{Answer}
use Rattle.rev_prompt.specs.declared.answers.Answer.TheVariants as answer
use Rattle.rev_prompt.specs.declared.question.EventName.{EventName}
use Rattle.rev_prompt.specs.declared.question.EventName.TheVariants as event_name

-- the word of an event's kind
abbrev pub kind_word : Event → List ℕ
kind_word (event.Plan targets) = codes "plan"
kind_word (event.Start out job slot) = codes "start"
kind_word (event.Finish out stamps listing) = codes "finish"
kind_word (event.Fail out stamps) = codes "fail"
kind_word (event.Abort out stamps) = codes "abort"
kind_word (event.Clean out) = codes "clean"
kind_word (event.Pass out) = codes "pass"
kind_word (event.Touch path stamp) = codes "touch"
kind_word event.Interrupt = codes "interrupt"
kind_word (event.Resize pool depth) = codes "resize"

-- a touch of the path
abbrev pub is_touch_of : List ℕ → Event → Bool
is_touch_of path (event.Touch touched stamp) = bytes_eq touched path
is_touch_of path _ = false

-- one of the edge that has the path as an output, if there is one
abbrev pub is_of_producer : List BuildValue → Option ℕ → Event → Bool
is_of_producer builds None e = false
is_of_producer builds (Some edge) e = is_edge edge (edge_of_event builds e)

-- the event is at the path: a touch of it, or an event of the edge that makes it
abbrev pub is_at : List BuildValue → List ℕ → Event → Bool
is_at builds path e = is_touch_of path e || is_of_producer builds (producer_of builds path) e

-- of the kind that a name has, if it has one
abbrev pub is_of_kind : EventName → Event → Bool
is_of_kind (event_name.Kind kind path) e = bytes_eq kind.items (kind_word e)
is_of_kind _ e = true

-- there is an event, it is of the name's kind, and at the path
abbrev pub is_meant : List BuildValue → EventName → List ℕ → Option Event → Bool
is_meant builds name path None = false
is_meant builds name path (Some e) = is_of_kind name e && is_at builds path e

abbrev pub is_meant_at : Timeline → EventName → List ℕ → ℕ → Bool
is_meant_at t name path n = is_meant t.manifest.builds name path (event_at t n)

-- the last kept event at a path, of the kind that the name has, if it has one
abbrev pub last_at : Timeline → EventName → List ℕ → Option ℕ
last_at t name path = find (is_meant_at t name path) (reverse t.kept)

-- the number, where an event was accepted under it
abbrev pub if_event : Option Event → ℕ → Option ℕ
if_event None n = None
if_event (Some e) n = Some n

abbrev pub accepted_number : Timeline → ℕ → Option ℕ
accepted_number t n = if_event (event_at t n) n

-- The event that a name means: that of a number or of a label, undone since or not, or the last kept one at a path.
abbrev pub event_named : DeskValue → EventName → Option ℕ
event_named d (event_name.Which which) = option_and_then (accepted_number d.history) (named d.journal which)
event_named d (event_name.Kind kind path) = last_at d.history (event_name.Kind kind path) path
event_named d (event_name.Last path) = last_at d.history (event_name.Last path) path

-- nothing is kept at the path, which is an output or none
abbrev pub IsNoneAt : Timeline → List ℕ → Answer → Type 0
IsNoneAt t path (answer.NoneKept told) = (told ≡ path) × IsSome (producer_of t.manifest.builds path)
IsNoneAt t path (answer.NoOutput told) = (told ≡ path) × (producer_of t.manifest.builds path ≡ None)
IsNoneAt t path _ = ⊥

-- what is answered where a name means no event
abbrev pub IsNoEvent : Timeline → EventName → Answer → Type 0
IsNoEvent t (event_name.Which which) told = told ≡ answer.NoEvent
IsNoEvent t (event_name.Kind kind path) told = IsNoneAt t path told
IsNoEvent t (event_name.Last path) told = IsNoneAt t path told

-- the last kept event at a path, or what is answered where there is none
abbrev pub IsLastOrNone : Timeline → EventName → List ℕ → Result ℕ Answer → Type 0
IsLastOrNone t name path (Ok n) = last_at t name path ≡ Some n
IsLastOrNone t name path (Err told) = (last_at t name path ≡ None) × IsNoneAt t path told

-- the event of a name, or what is answered where it means none
abbrev pub IsNamed : DeskValue → EventName → Result ℕ Answer → Type 0
IsNamed d name (Ok n) = event_named d name ≡ Some n
IsNamed d name (Err told) = (event_named d name ≡ None) × IsNoEvent d.history name told

-- this is so of the event of a name; or the name means none, and the answer says so
abbrev pub OfNumber : Option ℕ → (ℕ → Type 0) → Type 0 → Type 0
OfNumber None P none = none
OfNumber (Some n) P none = P n

abbrev pub OfEvent : DeskValue → EventName → (ℕ → Type 0) → Answer → Type 0
OfEvent d name P told = OfNumber (event_named d name) P (IsNoEvent d.history name told)

-- numbers before those of further names
abbrev pub with_rest : List ℕ → Result (List ℕ) EventName → Result (List ℕ) EventName
with_rest numbers (Ok rest) = Ok (numbers ++ rest)
with_rest numbers (Err name) = Err name

abbrev pub then_rest : EventName → Option ℕ → Result (List ℕ) EventName → Result (List ℕ) EventName
then_rest name None rest = Err name
then_rest name (Some n) rest = with_rest (n ∷ []) rest

-- the events of names, in their order, or the first name that means none
abbrev pub events_named : DeskValue → List EventName → Result (List ℕ) EventName
events_named d [] = Ok []
events_named d (name ∷ names) = then_rest name (event_named d name) (events_named d names)

-- the events of names, or what is answered where the first such means none
abbrev pub AreNamed : DeskValue → List EventName → Result (Vec ℕ) Answer → Type 0
AreNamed d names (Ok numbers) = events_named d names ≡ Ok numbers.items
AreNamed d names (Err told) =
    (name : EventName) × ((events_named d names ≡ Err name) × IsNoEvent d.history name told)

-- this is so of the events of names; or one means none, and the answer says so of the first such
abbrev pub OfNumbers : Timeline → Result (List ℕ) EventName → (List ℕ → Type 0) → Answer → Type 0
OfNumbers t (Ok numbers) P told = P numbers
OfNumbers t (Err name) P told = IsNoEvent t name told

abbrev pub OfEvents : DeskValue → List EventName → (List ℕ → Type 0) → Answer → Type 0
OfEvents d names P told = OfNumbers d.history (events_named d names) P told
