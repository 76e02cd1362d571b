-- What the sets, refusals and chains of plans come to.
use Rattle.std.specs.Prelude.{◌≡◌, ℕ, ◌<◌, true, ◌↔◌, List, [], length, Some, None, slice_get}
use Rattle.rev_manifest.specs.Manifest.{BuildValue, ManifestValue}
use Rattle.rev_cells.specs.State.{State, mark_of}
use Rattle.rev_cells.specs.declared.mark.Mark.{Mark}
use Rattle.rev_cells.specs.declared.mark.Mark.TheVariants as mark
use Rattle.rev_dirty.specs.Inputs.{producers_in}
use Rattle.rev_plan.specs.Chain.{ChainValue, IsChain, chain_of}
use Rattle.rev_plan.specs.Plan.{PlanRefusal, PlanRefusal.DepsCycle, is_reached, is_wanted, is_through, deps_cycle, marks_of, plan_refusal, targets_or}
use Rattle.rev_plan.specs.Planned.{IsMarkOf, LeadsTo, EndsAtReasons}
use Rattle.rev_plan.specs.Least.{Reached, Wanted, Through, IsLeast, IsCyclic}
use Rattle.rev_plan.specs.Refusals.{IsRefused, IsAccepted}

-- the functions give the least sets
pub record SetsAreLeast : Type 0 where
  pub reached : (builds : List BuildValue) (state : State) (targets : List (List ℕ)) (edge : ℕ)
      → (is_reached builds state (producers_in builds targets) edge ≡ true) ↔ Reached builds state targets edge
  pub wanted : (builds : List BuildValue) (state : State) (targets : List (List ℕ)) (edge : ℕ)
      → (is_wanted builds state (producers_in builds targets) edge ≡ true) ↔ Wanted builds state targets edge
  pub through : (builds : List BuildValue) (state : State) (targets : List (List ℕ)) (edge : ℕ)
      → (is_through builds state (producers_in builds targets) edge ≡ true) ↔ Through builds state targets edge

-- the cycle that a plan names is that of the least reached edge which reaches itself, and none is named where no edge
-- does
pub record CycleIsNamed : Type 0 where
  pub named : (builds : List BuildValue) (state : State) (targets : List (List ℕ)) (edge : ℕ)
      → deps_cycle builds state (producers_in builds targets) ≡ Some (DepsCycle edge)
      → IsLeast (IsCyclic builds state targets) edge
  pub none : (builds : List BuildValue) (state : State) (targets : List (List ℕ))
      → deps_cycle builds state (producers_in builds targets) ≡ None → (edge : ℕ) → IsCyclic builds state targets edge
      → ⊥

-- the marks that a plan gives are those of these sets
abbrev pub MarksAreOfTheSets : Type 0
MarksAreOfTheSets =
    (manifest : ManifestValue) (state : State) (targets : List (List ℕ)) (edge : ℕ) (m : Mark)
    → edge < length manifest.builds
    → (slice_get (marks_of manifest state targets) edge ≡ Some m)
    ↔ IsMarkOf manifest.builds state (targets_or manifest.defaults targets) edge m

-- a plan is refused for what a reader finds first, and is accepted exactly where there is nothing to find
pub record RefusalsAreFirst : Type 0 where
  pub refused : (manifest : ManifestValue) (state : State) (targets : List (List ℕ)) (refusal : PlanRefusal)
      → (plan_refusal manifest state targets ≡ Some refusal)
      ↔ IsRefused manifest.builds state (targets_or manifest.defaults targets) refusal
  pub accepted : (manifest : ManifestValue) (state : State) (targets : List (List ℕ))
      → (plan_refusal manifest state targets ≡ None)
      ↔ IsAccepted manifest.builds state (targets_or manifest.defaults targets)

-- an edge has one chain, and the function gives it
abbrev pub OneChain : Type 0
OneChain =
    (builds : List BuildValue) (state : State) (edge : ℕ) (chain : ChainValue) → edge < length builds
    → (chain_of builds state edge ≡ chain) ↔ IsChain builds state [] edge chain

-- in the state that an accepted plan leaves, the chain of a wanted edge ends at an edge with reasons, and all its edges
-- are wanted
abbrev pub ChainsEndAtReasons : Type 0
ChainsEndAtReasons =
    (manifest : ManifestValue) (targets : List (List ℕ)) (before after : State) (edge : ℕ)
    → LeadsTo manifest targets before after → edge < length manifest.builds
    → mark_of after edge ≡ mark.Wanted → EndsAtReasons manifest.builds after (chain_of manifest.builds after edge)
