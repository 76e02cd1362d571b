-- How the build of a witness goes on.
use Rattle.std.specs.Prelude.{◌≡◌, ℕ, zero, suc, ◌+◌, ◌*◌, ◌≤◌, Bool, true, false, ◌||◌, List, [], ◌∷◌, map, length, slice_index_or, if◌then◌else◌}
use Rattle.rev_cells.specs.State.{State, mark_of}
use Rattle.rev_cells.specs.declared.mark.Mark.{Mark}
use Rattle.rev_cells.specs.declared.mark.Mark.TheVariants as mark
use Rattle.rev_events.specs.declared.event.Event.{Event}
use Rattle.rev_events.specs.declared.event.Event.TheVariants.{Plan, Start, Finish, Pass}
use Rattle.rev_events.specs.declared.event.Listing.TheVariants.{Nothing}
use Rattle.rev_events.specs.Refusal.{is_settled, is_through_mark, is_wanted_mark}
use Rattle.rev_graph.specs.Graph.{EdgeSteps, GraphValue, build_at, outputs_of, pool_of, rank_at}
use Rattle.rev_history.specs.Timeline.{Timeline, last_of, state_at}
use Rattle.rev_manifest.specs.Manifest.{BuildValue, ManifestValue}
use Rattle.rev_races.specs.Laws.{IsReady, first_slot}
use Rattle.rev_ranks.specs.Graph.{Steps}
use Rattle.rev_waits.specs.Waits.{Waits}
use Rattle.rev_witness.specs.Witness.{BeganWith}

-- THE EVENTS OF ONE EDGE
-- the first output of an edge
abbrev pub first_out : ManifestValue → ℕ → List ℕ
first_out manifest edge = slice_index_or (outputs_of (build_at manifest.builds edge)) 0 []

-- its command begins on the first job, in the first slot of its pool
abbrev pub start_event : ManifestValue → ℕ → Event
start_event manifest edge = Start (first_out manifest edge) 0 (first_slot (pool_of manifest edge))

-- it ends well: each output gets the stamp 1, and nothing is listed
abbrev pub finish_event : ManifestValue → ℕ → Event
finish_event manifest edge =
    Finish (first_out manifest edge) (map (λ out. 1) (outputs_of (build_at manifest.builds edge))) Nothing

-- two are planned, by these outputs
abbrev pub plan_event : ManifestValue → ℕ → ℕ → Event
plan_event manifest one other = Plan (first_out manifest one ∷ first_out manifest other ∷ [])

-- a phony edge passes
abbrev pub pass_event : ManifestValue → ℕ → Event
pass_event manifest edge = Pass (first_out manifest edge)

-- THE BUILD
-- the edge is still to run or to pass
abbrev pub is_due : Mark → Bool
is_due m = is_wanted_mark m || is_through_mark m

-- how many of the first edges are settled
abbrev pub settled_below : State → ℕ → ℕ
settled_below s zero = 0
settled_below s (suc n) = if is_settled (mark_of s n) then suc (settled_below s n) else settled_below s n

-- A build of the manifest on one job, as a plan leaves it where only sources are there: each edge can end. Its events
-- are few: the plan, and at most two for each edge that is settled.
pub record IsUnderWay (manifest : ManifestValue) (opening : State) (t : Timeline) : Type 0 where
  pub began : BeganWith manifest opening t
  pub ready : IsReady manifest (state_at t)
  pub few : last_of t.accepted ≤ 1 + 2 * settled_below (state_at t) (length manifest.builds)

-- both edges are planned: the build is under way, and both are still to run
pub record IsPlanned (manifest : ManifestValue) (opening : State) (b a : ℕ) (t : Timeline) : Type 0 where
  pub under_way : IsUnderWay manifest opening t
  pub used : mark_of (state_at t) b ≡ mark.Wanted
  pub made : mark_of (state_at t) a ≡ mark.Wanted

-- the edges that produce inputs of an edge's build line are settled
abbrev pub IsFree : List BuildValue → State → ℕ → Type 0
IsFree builds s edge = (other : ℕ) → EdgeSteps builds edge other → is_settled (mark_of s other) ≡ true

-- From one history to a later one the build goes on: some edges are settled then, those that were so stay so, and all
-- others are as they were.
pub record GoesOn (manifest : ManifestValue) (opening : State) (ended : ℕ → Type 0) (t u : Timeline) : Type 0 where
  pub under_way : IsUnderWay manifest opening u
  pub done : (edge : ℕ) → ended edge → is_settled (mark_of (state_at u) edge) ≡ true
  pub stays : (edge : ℕ) → is_settled (mark_of (state_at t) edge) ≡ true
      → is_settled (mark_of (state_at u) edge) ≡ true
  pub others : (edge : ℕ) → (ended edge → ⊥) → mark_of (state_at u) edge ≡ mark_of (state_at t) edge

-- BY RANK
-- the rank of an edge that is waited for; nothing of another
abbrev pub rank_list : GraphValue → List Bool → ℕ → List ℕ
rank_list graph waited edge = if slice_index_or waited edge false then rank_at graph.ranks edge ∷ [] else []

-- Lists of edges, one for each rank: they have the edges that an edge waits for, each in the list of its rank.
pub record AreByRank (graph : GraphValue) (edge : ℕ) (lists : List (List ℕ)) : Type 0 where
  pub each : length lists ≡ length graph.manifest.builds
  pub listed : (other : ℕ) → Waits graph.manifest.builds edge other → Steps lists (rank_at graph.ranks other) other
  pub waited : (rank other : ℕ) → Steps lists rank other → Waits graph.manifest.builds edge other
  pub ranked : (rank other : ℕ) → Steps lists rank other → rank_at graph.ranks other ≡ rank
