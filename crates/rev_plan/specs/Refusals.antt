-- Why a plan is refused, as a reader knows it.
use Rattle.std.specs.Prelude.{◌≡◌, ◌<◌, ℕ, true, List, ◌++◌, length, Option, Some, slice_get}
use Rattle.std.specs.List.{Contains}
use Rattle.rev_manifest.specs.Manifest.{BuildValue}
use Rattle.rev_graph.specs.Graph.{build_at, outputs_of, inputs_of, Produces}
use Rattle.rev_cells.specs.State.{State, stamp_of, mark_of}
use Rattle.rev_cells.specs.declared.mark.Mark.TheVariants as mark
use Rattle.rev_plan.specs.Least.{Reached, IsLeast, IsCyclic}
use Rattle.rev_plan.specs.Plan.{PlanRefusal, PlanRefusal.StillRunning, PlanRefusal.UnknownTarget, PlanRefusal.MissingInput, PlanRefusal.DepsCycle}

-- the command of an edge runs
pub record Runs (builds : List BuildValue) (state : State) (edge : ℕ) : Type 0 where
  pub is_edge : edge < length builds
  pub job : ℕ
  pub slot : Option ℕ
  pub seen : ℕ
  pub mark_is : mark_of state edge ≡ mark.Running job slot seen

-- a path stands on some build line: as an output, an input of any kind or a validation
pub record StandsOnLine (builds : List BuildValue) (path : List ℕ) : Type 0 where
  pub edge : ℕ
  pub is_edge : edge < length builds
  pub stands_there : Contains
      (outputs_of (build_at builds edge) ++ (inputs_of (build_at builds edge) ++ (build_at builds edge).validations))
      path

-- the target at a position stands on no build line
pub record IsUnknown (builds : List BuildValue) (targets : List (List ℕ)) (position : ℕ) : Type 0 where
  pub path : List ℕ
  pub is_target : slice_get targets position ≡ Some path
  pub on_no_line : StandsOnLine builds path → ⊥

-- The input at a position is missing, and no edge produces it. These are the explicit, implicit and order-only inputs
-- of the build line; what a deps record lists is left out.
pub record Lacks (builds : List BuildValue) (state : State) (edge position : ℕ) : Type 0 where
  pub path : List ℕ
  pub is_input : slice_get (inputs_of (build_at builds edge)) position ≡ Some path
  pub unproduced : (other : ℕ) → Produces builds other path → ⊥
  pub is_missing : stamp_of state path ≡ 0

-- a reached edge lacks an input
pub record LacksSome (builds : List BuildValue) (state : State) (targets : List (List ℕ)) (edge : ℕ) : Type 0 where
  pub is_reached : Reached builds state targets edge
  pub position : ℕ
  pub lacks : Lacks builds state edge position

-- no edge, or no position, has a property
abbrev pub NoneIs : (ℕ → Type 0) → Type 0
NoneIs P = (n : ℕ) → P n → ⊥

-- Why a plan for these targets is refused: each is asked for where none of those before it is so.
pub data IsRefused (builds : List BuildValue) (state : State) (targets : List (List ℕ)) : PlanRefusal → Type 0 where
  runs : {edge : ℕ} → IsLeast (Runs builds state) edge → IsRefused builds state targets (StillRunning edge)
  unknown : {position : ℕ} → NoneIs (Runs builds state) → IsLeast (IsUnknown builds targets) position
      → IsRefused builds state targets (UnknownTarget position)
  lacking : {position edge : ℕ} → NoneIs (Runs builds state) → NoneIs (IsUnknown builds targets)
      → IsLeast (LacksSome builds state targets) edge → IsLeast (Lacks builds state edge) position
      → IsRefused builds state targets (MissingInput position edge)
  cyclic : {edge : ℕ} → NoneIs (Runs builds state) → NoneIs (IsUnknown builds targets)
      → NoneIs (LacksSome builds state targets) → IsLeast (IsCyclic builds state targets) edge
      → IsRefused builds state targets (DepsCycle edge)

-- No refusal stands: nothing runs, all targets are known, no reached edge lacks an input, and none reaches itself.
pub record IsAccepted (builds : List BuildValue) (state : State) (targets : List (List ℕ)) : Type 0 where
  pub nothing_runs : NoneIs (Runs builds state)
  pub all_known : NoneIs (IsUnknown builds targets)
  pub none_lacks : NoneIs (LacksSome builds state targets)
  pub none_cyclic : NoneIs (IsCyclic builds state targets)
