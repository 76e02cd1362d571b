-- What questions are answered.
use Rattle.std.specs.Prelude.{◌≡◌, ℕ, List, [], map, reverse, Option, Some, None}
use Rattle.std.specs.Global.{Vec}
use Rattle.rev_graph.specs.Graph.{producer_of}
use Rattle.rev_history.specs.Timeline.{Timeline}
use Rattle.rev_held.specs.declared.linked.Link.{Link}
use Rattle.rev_held.specs.Links.{link_between}
use Rattle.rev_held.specs.Several.{dependents_of, needed_by}
use Rattle.rev_held.specs.Ways.{ways_to}
use Rattle.rev_looked.specs.declared.need.Need.{Need}
use Rattle.rev_looked.specs.Needs.{Scene, needs_of, scene}
use Rattle.rev_observed.specs.Observations.{ObservationValue}
use Rattle.rev_runs.specs.Edges.{events_of}
use Rattle.rev_prompt.specs.declared.answers.Answer.{Answer}
use Rattle.rev_prompt.specs.declared.answers.Answer.TheVariants as answer
use Rattle.rev_prompt.specs.declared.answers.Needs.{Needs}
use Rattle.rev_prompt.specs.declared.answers.Span.{Span}
use Rattle.rev_prompt.specs.declared.answers.Way.{Way}
use Rattle.rev_prompt.specs.declared.question.Reach.{Reach}
use Rattle.rev_prompt.specs.declared.question.Reach.TheVariants as reach
use Rattle.rev_prompt.specs.Past.{plan_of, state_then}
use Rattle.rev_prompt.specs.Reasons.{IsWay}
use Rattle.rev_prompt.specs.Spans.{last_run, runs_beside}

-- what an event rests on, from the latest down: itself, or also by way of others
abbrev pub needs_links : Timeline → ℕ → Reach → List Link
needs_links t n reach.Itself = map (λ one. link_between t one n) (reverse (needed_by t n))
needs_links t n reach.All = map (λ (pair : ℕ × ℕ). link_between t pair.0 pair.1) (ways_to t n)
needs_links t n reach.Observed = []

-- what was observed, if anything was: its paths and commands, and the edges of these
abbrev pub scene_of : Timeline → ObservationValue → List ℕ → Scene
scene_of t o edges = scene t o.paths o.commands edges

-- what an event rests on by what its command was seen to look at
abbrev pub looks_of : Timeline → Option ObservationValue → List ℕ → ℕ → Option (List Need)
looks_of t None edges n = None
looks_of t (Some o) edges n = Some (needs_of (scene_of t o edges) n)

abbrev pub items_in : Option (Vec Need) → Option (List Need)
items_in None = None
items_in (Some v) = Some v.items

pub record AreNeeds (t : Timeline) (o : Option ObservationValue) (edges : List ℕ) (n : ℕ) (reach : Reach)
    (needs : Needs) : Type 0 where
  pub number : needs.number ≡ n
  pub reach_is : needs.reach ≡ reach
  pub links : needs.links.items ≡ needs_links t n reach
  pub looks : items_in needs.looks ≡ looks_of t o edges n

abbrev pub IsNeeds : Timeline → Option ObservationValue → List ℕ → ℕ → Reach → Answer → Type 0
IsNeeds t o edges n reach (answer.Needs needs) = AreNeeds t o edges n reach needs
IsNeeds t o edges n reach _ = ⊥

abbrev pub IsDependents : Timeline → ℕ → Answer → Type 0
IsDependents t n (answer.Dependents number links) =
    (number ≡ n) × (links.items ≡ map (link_between t n) (dependents_of t n))
IsDependents t n _ = ⊥

-- the path is an output, and this is so of its edge
abbrev pub OfOutput : Timeline → List ℕ → (ℕ → Type 0) → Type 0
OfOutput t out P = (edge : ℕ) × ((producer_of t.manifest.builds out ≡ Some edge) × P edge)

-- the path is none
abbrev pub IsNoOutput : Timeline → List ℕ → List ℕ → Type 0
IsNoOutput t out path = (path ≡ out) × (producer_of t.manifest.builds out ≡ None)

abbrev pub IsWho : Timeline → List ℕ → Answer → Type 0
IsWho t out (answer.Who path numbers) = (path ≡ out) × OfOutput t out (λ edge. numbers.items ≡ events_of t edge)
IsWho t out (answer.NoOutput path) = IsNoOutput t out path
IsWho t out _ = ⊥

-- the runs beside a run, if there is one
abbrev pub beside_last : Timeline → Option Span → List Span
beside_last t None = []
beside_last t (Some span) = runs_beside t span

abbrev pub IsWith : Timeline → List ℕ → Answer → Type 0
IsWith t out (answer.With path run others) =
    (path ≡ out) × OfOutput t out (λ edge. (run ≡ last_run t edge) × (others.items ≡ beside_last t run))
IsWith t out (answer.NoOutput path) = IsNoOutput t out path
IsWith t out _ = ⊥

-- the last run of an edge, the plan whose reasons are told, and the way to these in the state after it
pub record Explains (t : Timeline) (edge : ℕ) (run : Option Span) (plan : Option ℕ) (way : Way) : Type 0 where
  pub run_is : run ≡ last_run t edge
  pub plan_is : plan ≡ plan_of t edge run
  pub way_is : IsWay t.manifest.builds (state_then t plan) edge way

abbrev pub IsWhy : Timeline → List ℕ → Answer → Type 0
IsWhy t out (answer.Why path run plan way) = (path ≡ out) × OfOutput t out (λ edge. Explains t edge run plan way)
IsWhy t out (answer.NoOutput path) = IsNoOutput t out path
IsWhy t out _ = ⊥
