-- Which commands the targets of a recording need.
use Rattle.std.specs.Prelude.{ℕ, Bool, List, [], ◌++◌, map, Option, Some, None}
use Rattle.std.specs.List.{filter_map, flat_map}
use Rattle.rev_manifest.specs.Manifest.{BuildValue, ManifestValue}
use Rattle.rev_graph.specs.Graph.{input_producers}
use Rattle.rev_dirty.specs.Inputs.{producers_in}
use Rattle.rev_plan.specs.Plan.{targets_or}
use Rattle.rev_ranks.specs.Leads.{is_reachable}
use Rattle.rev_ranks.specs.Sets.{IsSetOf}
use Rattle.rev_events.specs.declared.event.Event.{Event}
use Rattle.rev_events.specs.declared.event.Event.TheVariants.{Plan}
use Rattle.rev_history.specs.Timeline.{Timeline, event_at}

-- an edge needs the edges that make its inputs and its validations
abbrev pub needs_of : List BuildValue → BuildValue → List ℕ
needs_of builds build = filter_map (λ producer. producer) (input_producers builds build) ++ producers_in builds build.validations

abbrev pub need_lists : List BuildValue → List (List ℕ)
need_lists builds = map (needs_of builds) builds

-- the edges that make the targets of an event, which has some where it is a plan: of the defaults where it names none
abbrev pub event_makers : ManifestValue → Event → List ℕ
event_makers manifest (Plan targets) = producers_in manifest.builds (targets_or manifest.defaults targets)
event_makers manifest _ = []

abbrev pub makers_if : ManifestValue → Option Event → List ℕ
makers_if manifest None = []
makers_if manifest (Some e) = event_makers manifest e

-- the edges that make the targets of the plans of a history: of its kept events
abbrev pub target_edges : Timeline → List ℕ
target_edges t = flat_map (λ n. makers_if t.manifest (event_at t n)) t.kept

-- A mark for each edge: it has one exactly where it makes a target, or where one that makes a target needs it, itself or
-- through others.
abbrev pub AreNeeded : Timeline → List Bool → Type 0
AreNeeded t marks = IsSetOf (need_lists t.manifest.builds) (is_reachable (need_lists t.manifest.builds) (target_edges t)) marks
