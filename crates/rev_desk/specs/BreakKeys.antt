-- What events meet and what points wait for.
use Rattle.std.specs.Prelude.{ℕ, ◌==◌, Bool, true, false, not, List, filter, find, map, nat_eq, Option, Some, None, bytes_eq}
use Rattle.std.specs.Option.{option_map}
use Rattle.rev_causal.specs.Chosen.{is_among}
use Rattle.rev_manifest.specs.Manifest.{ManifestValue}
use Rattle.rev_graph.specs.Graph.{producer_of}
use Rattle.rev_events.specs.declared.event.Event.{Event}
use Rattle.rev_events.specs.declared.event.Event.TheVariants as event
use Rattle.rev_commands.specs.declared.point.Point.{Point}
use Rattle.rev_commands.specs.declared.point.Point.TheVariants as point
use Rattle.rev_desk.specs.declared.break_key.BreakKey.{BreakKey}
use Rattle.rev_desk.specs.declared.break_key.BreakKey.TheVariants as break_key

-- the events of one kind of the edge that an output names, where one has it
abbrev pub edge_break_key : ManifestValue → (ℕ → BreakKey) → List ℕ → Option BreakKey
edge_break_key manifest of_kind out = option_map of_kind (producer_of manifest.builds out)

-- what an event is: its kind, with its edge or path; no point waits for a resize
abbrev pub event_break_key : ManifestValue → Event → Option BreakKey
event_break_key manifest (event.Plan targets) = Some break_key.Plan
event_break_key manifest (event.Start out job slot) = edge_break_key manifest break_key.Start out
event_break_key manifest (event.Finish out stamps listing) = edge_break_key manifest break_key.Finish out
event_break_key manifest (event.Fail out stamps) = edge_break_key manifest break_key.Fail out
event_break_key manifest (event.Abort out stamps) = edge_break_key manifest break_key.Abort out
event_break_key manifest (event.Clean out) = edge_break_key manifest break_key.Clean out
event_break_key manifest (event.Pass out) = edge_break_key manifest break_key.Pass out
event_break_key manifest (event.Touch path stamp) = Some (break_key.Touch path)
event_break_key manifest event.Interrupt = Some break_key.Interrupt
event_break_key manifest (event.Resize pool depth) = None

-- what a point waits for: a kind of events, and the edge or the path that it names
abbrev pub point_break_key : ManifestValue → Point → Option BreakKey
point_break_key manifest (point.Start out) = edge_break_key manifest break_key.Start out
point_break_key manifest (point.Finish out) = edge_break_key manifest break_key.Finish out
point_break_key manifest (point.Fail out) = edge_break_key manifest break_key.Fail out
point_break_key manifest (point.Abort out) = edge_break_key manifest break_key.Abort out
point_break_key manifest (point.Clean out) = edge_break_key manifest break_key.Clean out
point_break_key manifest (point.Pass out) = edge_break_key manifest break_key.Pass out
point_break_key manifest (point.Touch path) = Some (break_key.Touch path)
point_break_key manifest point.Plan = Some break_key.Plan
point_break_key manifest point.Interrupt = Some break_key.Interrupt

-- of one kind, and of one edge or path
abbrev pub same_break_key : BreakKey → BreakKey → Bool
same_break_key (break_key.Start a) (break_key.Start b) = a == b
same_break_key (break_key.Finish a) (break_key.Finish b) = a == b
same_break_key (break_key.Fail a) (break_key.Fail b) = a == b
same_break_key (break_key.Abort a) (break_key.Abort b) = a == b
same_break_key (break_key.Clean a) (break_key.Clean b) = a == b
same_break_key (break_key.Pass a) (break_key.Pass b) = a == b
same_break_key (break_key.Touch p) (break_key.Touch q) = bytes_eq p q
same_break_key break_key.Plan break_key.Plan = true
same_break_key break_key.Interrupt break_key.Interrupt = true
same_break_key _ _ = false

abbrev pub both_same : Option BreakKey → Option BreakKey → Bool
both_same None b = false
both_same (Some a) None = false
both_same (Some a) (Some b) = same_break_key a b

-- An event meets a point of its own kind and, where the point names an output or a path, of the same edge or path.
abbrev pub meets : ManifestValue → Event → Point → Bool
meets manifest e p = both_same (point_break_key manifest p) (event_break_key manifest e)

-- the least break that an event meets; breaks stand in rising number
abbrev pub least_met : ManifestValue → Event → List (ℕ × Point) → Option ℕ
least_met manifest e breaks = option_map (λ b. b.0) (find (λ b. meets manifest e b.1) breaks)

abbrev pub numbers_of : List (ℕ × Point) → List ℕ
numbers_of breaks = map (λ b. b.0) breaks

abbrev pub stands : List (ℕ × Point) → ℕ → Bool
stands breaks n = is_among (numbers_of breaks) n

abbrev pub without_break : ℕ → List (ℕ × Point) → List (ℕ × Point)
without_break n breaks = filter (λ b. not (nat_eq b.0 n)) breaks
