-- What questions about edges, files and times are answered.
use Rattle.std.specs.Prelude.{◌≡◌, ℕ, IsPermutation, List, [], ◌∷◌, map, take, Option, Some, None}
use Rattle.std.specs.List.{filter_map}
use Rattle.std.specs.Global.{Vec}
use Rattle.std.specs.Option.{option_map}
use Rattle.rev_cells.specs.State.{State}
use Rattle.rev_desk.specs.declared.reply.Reply.TheVariants.{Refused}
use Rattle.rev_events.specs.declared.event.Event.{Event}
use Rattle.rev_events.specs.declared.event.Event.TheVariants.{Plan}
use Rattle.rev_events.specs.declared.refusal.Refusal.{Refusal}
use Rattle.rev_events.specs.declared.refusal.Refusal.TheVariants as refusal
use Rattle.rev_graph.specs.Graph.{producer_of}
use Rattle.rev_history.specs.Timeline.{Timeline, event_at, state_at}
use Rattle.rev_looked.specs.Uses.{readers_of, writers_of}
use Rattle.rev_manifest.specs.Manifest.{BuildValue}
use Rattle.rev_observed.specs.Observations.{ObservationValue}
use Rattle.rev_plan.specs.declared.fault.PlanFault.{PlanFault}
use Rattle.rev_plan.specs.declared.fault.PlanFault.TheVariants as fault
use Rattle.rev_queries.specs.Critical.{IsChain, recent_of}
use Rattle.rev_queries.specs.Edges.{edges_like, users_of}
use Rattle.rev_queries.specs.Readings.{readings_of}
use Rattle.rev_queries.specs.Rebuilds.{AreRebuilds, IsRefusedAfter}
use Rattle.rev_queries.specs.declared.reading.Reading.{Reading}
use Rattle.rev_queries.specs.declared.rebuild.Rebuild.{Rebuild}
use Rattle.rev_queries.specs.declared.times.Timed.{Timed}
use Rattle.rev_prompt.specs.declared.answers.Answer.{Answer}
use Rattle.rev_prompt.specs.declared.answers.Answer.TheVariants as answer
use Rattle.rev_prompt.specs.declared.answers.Deed.{Deed}
use Rattle.rev_prompt.specs.declared.found.EdgeFound.{EdgeFound}
use Rattle.rev_prompt.specs.declared.found.Found.{Found}
use Rattle.rev_prompt.specs.declared.found.Found.TheVariants as found
use Rattle.rev_prompt.specs.declared.found.Rebuilt.{Rebuilt}
use Rattle.rev_prompt.specs.Past.{plan_before}
use Rattle.rev_prompt.specs.Reasons.{because}
use Rattle.rev_prompt.specs.Spans.{last_run}
use Rattle.rev_prompt.specs.Users.{deed_of}

-- what commands were seen to do with a path: each that looks at it; none where nothing was observed
abbrev pub deeds_in : Option (Vec Deed) → Option (List Deed)
deeds_in None = None
deeds_in (Some deeds) = Some deeds.items

abbrev pub looks_at : Timeline → List ℕ → List ℕ → ObservationValue → List Deed
looks_at t edges path o = map (deed_of t) (readers_of o.paths edges o.commands path)

abbrev pub changes_of : Timeline → List ℕ → List ℕ → ObservationValue → List Deed
changes_of t edges path o = map (deed_of t) (writers_of o.paths edges o.commands path)

-- the first of some numbers, if there is one
abbrev pub first_of : List ℕ → Option ℕ
first_of [] = None
first_of (n ∷ ns) = Some n

-- each edge that has a name of the file behind the rule of its line or lists one, and each command that was seen to look
-- at the file under its own name
pub record AreReads (t : Timeline) (o : Option ObservationValue) (edges path own : List ℕ) (names : List (List ℕ))
    (name : List ℕ) (readings : List Reading) (deeds : Option (List Deed)) : Type 0 where
  pub path_is : name ≡ path
  pub named : readings ≡ readings_of t.manifest.builds (state_at t) names
  pub seen : deeds ≡ option_map (looks_at t edges own) o

abbrev pub IsReads :
    Timeline → Option ObservationValue → List ℕ → List ℕ → List ℕ → List (List ℕ) → Found → Type 0
IsReads t o edges path own names (found.Reads name readings deeds) =
    AreReads t o edges path own names name readings.items (deeds_in deeds)
IsReads t o edges path own names _ = ⊥

-- the edge that has the first of the file's names which an edge has as an output, and each command that was seen to
-- change the file under its own name
pub record AreMakes (t : Timeline) (o : Option ObservationValue) (edges path own : List ℕ) (names : List (List ℕ))
    (name : List ℕ) (producer : Option ℕ) (deeds : Option (List Deed)) : Type 0 where
  pub path_is : name ≡ path
  pub made : producer ≡ first_of (filter_map (producer_of t.manifest.builds) names)
  pub seen : deeds ≡ option_map (changes_of t edges own) o

abbrev pub IsMakes :
    Timeline → Option ObservationValue → List ℕ → List ℕ → List ℕ → List (List ℕ) → Found → Type 0
IsMakes t o edges path own names (found.Makes name producer deeds) =
    AreMakes t o edges path own names name producer (deeds_in deeds)
IsMakes t o edges path own names _ = ⊥

-- an edge that would be to do, with what its reason names in a state
abbrev pub rebuilt_of : List BuildValue → State → Rebuild → Rebuilt
rebuilt_of builds state r = record { edge = r.edge; because = option_map (because builds state r.edge) r.reason }

-- an edge, with the last kept run of its command and the edges that wait for it itself
pub record IsEdgeFound (t : Timeline) (edge : ℕ) (told : EdgeFound) : Type 0 where
  pub edge_is : told.edge ≡ edge
  pub run_is : told.run ≡ last_run t edge
  pub users_are : told.users.items ≡ users_of t.manifest.builds edge

-- exactly the edges with an output that matches a pattern
abbrev pub IsEdges : List BuildValue → List ℕ → Found → Type 0
IsEdges builds pattern (found.Edges edges) = edges.items ≡ edges_like builds pattern
IsEdges builds pattern _ = ⊥

-- the targets of an event, if it is a plan
abbrev pub targets_in : Option Event → List (List ℕ)
targets_in (Some (Plan targets)) = targets
targets_in _ = []

abbrev pub targets_at : Timeline → Option ℕ → List (List ℕ)
targets_at t None = []
targets_at t (Some n) = targets_in (event_at t n)

-- the targets of the last kept plan; none where nothing was planned
abbrev pub last_targets : Timeline → List (List ℕ)
last_targets t = targets_at t (plan_before t 4294967295)

-- what would be to do if these paths were touched, each edge with what its reason names
pub record AreTold (t : Timeline) (targets paths : List (List ℕ)) (told : List Rebuilt) : Type 0 where
  pub rebuilds : List Rebuild
  pub are : AreRebuilds t.manifest (state_at t) targets paths rebuilds
  pub named : told ≡ map (rebuilt_of t.manifest.builds (state_at t)) rebuilds

-- the refusal that a fault of a plan is; none where memory was refused
abbrev pub refusal_of : PlanFault → Option Refusal
refusal_of fault.Memory = None
refusal_of (fault.StillRunning edge) = Some (refusal.StillRunning edge)
refusal_of (fault.UnknownTarget target) = Some (refusal.UnknownTarget target)
refusal_of (fault.MissingInput input edge) = Some (refusal.MissingInput input edge)
refusal_of (fault.DepsCycle edge) = Some (refusal.DepsCycle edge)

-- the answer tells why a plan is refused
abbrev pub IsRefusal : PlanFault → Answer → Type 0
IsRefusal why (answer.Said reply number) =
    (number ≡ None) × ((r : Refusal) × ((reply ≡ Some (Refused r)) × (refusal_of why ≡ Some r)))
IsRefusal why _ = ⊥

-- the plan over the touched copy is refused, and the answer tells why
pub record IsRefusedPlan (t : Timeline) (targets paths : List (List ℕ)) (told : Answer) : Type 0 where
  pub why : PlanFault
  pub refused : IsRefusedAfter t.manifest (state_at t) targets paths why
  pub answered : IsRefusal why told

-- what would be to do if these paths were touched, or why the plan that asks it is refused
abbrev pub IsRebuilds : Timeline → List (List ℕ) → List (List ℕ) → Answer → Type 0
IsRebuilds t targets paths (answer.Found (found.Rebuilds told)) = AreTold t targets paths told.items
IsRebuilds t targets paths (answer.Said reply number) = IsRefusedPlan t targets paths (answer.Said reply number)
IsRebuilds t targets paths _ = ⊥

-- the first so many of the runs in some order; that the longest come first is not said
pub record AreSlowest (runs : List Timed) (count : ℕ) (told : List Timed) : Type 0 where
  pub ordered : List Timed
  pub same : IsPermutation runs ordered
  pub first : told ≡ take count ordered

abbrev pub IsSlowest : List Timed → ℕ → Found → Type 0
IsSlowest runs count (found.Slowest told) = AreSlowest runs count told.items
IsSlowest runs count found.NoTimes = runs ≡ []
IsSlowest runs count _ = ⊥

-- the number from which runs count as those of the last build
abbrev pub begun_at : Option ℕ → ℕ
begun_at None = 0
begun_at (Some plan) = plan

-- a chain of the runs that began after a plan, from the one that ended last
abbrev pub IsCritical : List BuildValue → List Timed → Option ℕ → Found → Type 0
IsCritical builds runs plan (found.Critical chain) =
    IsChain builds (recent_of builds (begun_at plan) runs) chain.links.items chain.next
IsCritical builds runs plan found.NoTimes = runs ≡ []
IsCritical builds runs plan _ = ⊥
