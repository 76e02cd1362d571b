-- Why an edge runs, with the paths that its reasons name.
use Rattle.std.specs.Prelude.{◌≡◌, ℕ, List, map, Option, Some, None, option_and_then, slice_get}
use Rattle.rev_cells.specs.State.{State}
use Rattle.rev_manifest.specs.Manifest.{BuildValue}
use Rattle.rev_graph.specs.Graph.{build_at, outputs_of}
use Rattle.rev_dirty.specs.declared.reason.Reason.{Reason}
use Rattle.rev_dirty.specs.declared.reason.Reason.TheVariants.{Missing, Rebuilt, MissingDep, Older, NoRecord, Command}
use Rattle.rev_dirty.specs.Inputs.{inputs, paths_of}
use Rattle.rev_plan.specs.Chain.{ChainValue, chain_of}
use Rattle.rev_prompt.specs.declared.answers.Because.{Because}
use Rattle.rev_prompt.specs.declared.answers.Wait.{Wait}
use Rattle.rev_prompt.specs.declared.answers.Way.{Way}

-- the output of an edge at a position, and its input at one, of all its inputs, those of the deps record among them
abbrev pub output_path : List BuildValue → ℕ → ℕ → Option (List ℕ)
output_path builds edge at = slice_get (outputs_of (build_at builds edge)) at

abbrev pub input_path : List BuildValue → State → ℕ → ℕ → Option (List ℕ)
input_path builds state edge at = slice_get (paths_of (inputs state (build_at builds edge))) at

-- the positions that a reason names
abbrev pub output_in : Reason → Option ℕ
output_in (Missing output) = Some output
output_in (NoRecord output) = Some output
output_in (Command output) = Some output
output_in (Older output input) = Some output
output_in _ = None

abbrev pub input_in : Reason → Option ℕ
input_in (Rebuilt input) = Some input
input_in (MissingDep input) = Some input
input_in (Older output input) = Some input
input_in _ = None

-- a reason of an edge with its paths
abbrev pub because : List BuildValue → State → ℕ → Reason → Because
because builds state edge reason =
    record {
      reason = reason;
      output = option_and_then (output_path builds edge) (output_in reason);
      input = option_and_then (input_path builds state edge) (input_in reason);
    }

-- a step of a chain with the path of its input
abbrev pub wait_of : List BuildValue → State → ℕ × ℕ → Wait
wait_of builds state step = record { edge = step.0; input = input_path builds state step.0 step.1 }

-- a chain with its paths, in a state
pub record IsWayOf (builds : List BuildValue) (state : State) (chain : ChainValue) (way : Way) : Type 0 where
  pub steps : way.steps.items ≡ map (wait_of builds state) chain.steps
  pub last : way.last ≡ chain.last
  pub reasons : way.reasons.items ≡ map (because builds state chain.last) chain.reasons

-- the way from an edge to its reasons in a state
abbrev pub IsWay : List BuildValue → State → ℕ → Way → Type 0
IsWay builds state edge way = IsWayOf builds state (chain_of builds state edge) way
