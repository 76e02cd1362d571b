-- The state that an accepted plan leaves.
use Rattle.std.specs.Prelude.{◌≡◌, ◌≢◌, ℕ, List, [], map, None}
use Rattle.std.specs.List.{Contains}
use Rattle.rev_manifest.specs.Manifest.{BuildValue, ManifestValue}
use Rattle.rev_cells.specs.State.{State, stamp_of, mark_of, built_of, deps_of}
use Rattle.rev_cells.specs.declared.mark.Mark.{Mark}
use Rattle.rev_cells.specs.declared.mark.Mark.TheVariants as mark
use Rattle.rev_dirty.specs.Reasons.{reasons_of}
use Rattle.rev_plan.specs.Chain.{ChainValue}
use Rattle.rev_plan.specs.Least.{Wanted, Through}
use Rattle.rev_plan.specs.Plan.{edge_numbers, marks_of, plan_refusal}

-- the mark that a plan gives an edge
pub data IsMarkOf (builds : List BuildValue) (state : State) (targets : List (List ℕ)) (edge : ℕ) : Mark → Type 0 where
  wanted : Wanted builds state targets edge → IsMarkOf builds state targets edge mark.Wanted
  through : Through builds state targets edge → IsMarkOf builds state targets edge mark.Through
  idle : (Wanted builds state targets edge → ⊥) → (Through builds state targets edge → ⊥)
      → IsMarkOf builds state targets edge mark.Idle

-- An accepted plan leads from one state to another: the edges have the marks that it gives them, and stamps and records
-- are as before.
pub record LeadsTo (manifest : ManifestValue) (targets : List (List ℕ)) (before after : State) : Type 0 where
  pub accepted : plan_refusal manifest before targets ≡ None
  pub marks : map (mark_of after) (edge_numbers manifest.builds) ≡ marks_of manifest before targets
  pub stamps : (path : List ℕ) → stamp_of after path ≡ stamp_of before path
  pub built : (path : List ℕ) → built_of after path ≡ built_of before path
  pub deps : (path : List ℕ) → deps_of after path ≡ deps_of before path

-- a chain ends at an edge with reasons, and all its edges are wanted
pub record EndsAtReasons (builds : List BuildValue) (state : State) (chain : ChainValue) : Type 0 where
  pub some : chain.reasons ≢ []
  pub theirs : chain.reasons ≡ reasons_of builds state chain.last
  pub last_is_wanted : mark_of state chain.last ≡ mark.Wanted
  pub each_is_wanted : (step : ℕ × ℕ) → Contains chain.steps step → mark_of state step.0 ≡ mark.Wanted
