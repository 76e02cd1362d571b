-- Two edges that can run at once.
use Rattle.std.specs.Prelude.{◌≡◌, ◌≢◌, ◌↔◌, ℕ, ◌<◌, true, false, List, [], ◌∷◌, ◌++◌, length, Some, None}
use Rattle.rev_manifest.specs.Manifest.{ManifestValue}
use Rattle.rev_graph.specs.Graph.{GraphValue, IsGraph, build_at, pool_of}
use Rattle.rev_cells.specs.State.{State, mark_of, given_depth_of}
use Rattle.rev_plan.specs.Plan.{is_running_mark}
use Rattle.rev_causal.specs.Machine.{Legal, run}
use Rattle.rev_events.specs.declared.event.Event.{Event}
use Rattle.rev_footprint.specs.Machine.{machine}
use Rattle.rev_history.specs.Timeline.{Numbered}
use Rattle.rev_waits.specs.Waits.{Waits}
use Rattle.rev_races.specs.Races.{IsRace, starts}
use Rattle.rev_races.specs.Laws.{HasSourcesAlone}

-- one pool of depth 1 holds both edges, so that they take turns
abbrev pub ShareOneSlot : ManifestValue → ℕ → ℕ → Type 0
ShareOneSlot manifest b a =
    (pool : ℕ) × (pool_of manifest b ≡ Some (pool, 1)) × (pool_of manifest a ≡ Some (pool, 1))

-- Nothing in the manifest keeps two edges from running at once: they are not one, neither waits for the other, and no
-- pool of depth 1 holds both.
pub record MayOverlap (manifest : ManifestValue) (b a : ℕ) : Type 0 where
  pub others : b ≢ a
  pub forth : Waits manifest.builds b a → ⊥
  pub back : Waits manifest.builds a b → ⊥
  pub room : ShareOneSlot manifest b a → ⊥

-- From nothing, events are accepted on two jobs that end with a start of b, before which a runs; and pools have the
-- depths of the manifest there.
pub record CanStartBeside (manifest : ManifestValue) (b a : ℕ) : Type 0 where
  pub opening : State
  pub from_nothing : HasSourcesAlone manifest.builds opening
  pub before : Numbered
  pub n : ℕ
  pub e : Event
  pub legal : Legal (machine manifest 2) opening (before ++ (n, e) ∷ [])
  pub begins : starts manifest b e ≡ true
  pub runs : is_running_mark (mark_of (run (machine manifest 2) opening before) a) ≡ true
  pub depths : (pool : ℕ) → given_depth_of (run (machine manifest 2) opening before) pool ≡ None

-- of two edges with commands, nothing in the manifest keeps them from running at once exactly where, from nothing, one
-- can start while the other runs
abbrev pub ExactAtOnce : Type 0
ExactAtOnce =
    (graph : GraphValue) (a b : ℕ) → IsGraph graph → a < length graph.manifest.builds
    → b < length graph.manifest.builds → (build_at graph.manifest.builds a).phony ≡ false
    → (build_at graph.manifest.builds b).phony ≡ false
    → MayOverlap graph.manifest b a ↔ CanStartBeside graph.manifest b a

-- Where a race is no cycle, and no pool of depth 1 holds both, the edge that lists the path can start while the one that
-- makes it runs.
abbrev pub RacesRunAtOnce : Type 0
RacesRunAtOnce =
    (graph : GraphValue) (files : List (List ℕ)) (opening : State) (events : Numbered) (b a : ℕ) (path : List ℕ)
    → IsGraph graph → IsRace graph.manifest files opening events b a path → (Waits graph.manifest.builds a b → ⊥)
    → (ShareOneSlot graph.manifest b a → ⊥) → CanStartBeside graph.manifest b a
