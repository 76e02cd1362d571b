-- The first own reason of an edge that is not phony, kind by kind.
use Rattle.std.specs.Prelude.{◌≡◌, ℕ, ◌==◌, Bool, true, false, List, map, Contains, Option, Some, None, option_and_then, if◌then◌else◌}
use Rattle.std.specs.List.{position}
use Rattle.std.specs.Option.{option_map, option_or}
use Rattle.rev_cells.specs.State.{State, stamp_of}
use Rattle.rev_manifest.specs.Builds.{BuildValue}
use Rattle.rev_graph.specs.Graph.{outputs_of}
use Rattle.rev_dirty.specs.declared.reason.Reason.{Reason}
use Rattle.rev_dirty.specs.declared.reason.Reason.TheVariants as reason
use Rattle.rev_dirty.specs.Inputs.{InputValue, counts, inputs}
use Rattle.rev_dirty.specs.Reasons.{has_old_deps, has_other_command, is_missing, is_outdated, lacks_deps, lacks_record, newest}

-- a reason where it holds
abbrev pub where_so : Bool → Reason → Option Reason
where_so true r = Some r
where_so false r = None

-- the first reason by what is there of its outputs and of its list
abbrev pub first_by_outputs : State → BuildValue → Option Reason
first_by_outputs state build =
    option_or (option_map reason.Missing (position (is_missing state) (outputs_of build)))
    (option_or (where_so (lacks_deps state build) reason.NoDeps) (where_so (has_old_deps state build) reason.DepsOld))

-- an output that is older than an input, where there are both
abbrev pub older_by : Option ℕ → Option ℕ → Option Reason
older_by output input = option_and_then (λ i. option_map (λ o. reason.Older o i) output) input

-- the first output that is older than the newest input, with that input
abbrev pub first_older : List BuildValue → State → BuildValue → Option Reason
first_older builds state build =
    older_by (position (is_outdated builds state build) (outputs_of build)) (newest builds state (inputs state build))

-- the first reason by the build log
abbrev pub first_by_log : State → BuildValue → Option Reason
first_by_log state build =
    option_or (option_map reason.NoRecord (position (lacks_record state build) (outputs_of build)))
    (option_map reason.Command (position (has_other_command state build) (outputs_of build)))

-- the stamp of an input that counts, 0 in place of that of an order-only one
abbrev pub counted_stamp : State → InputValue → ℕ
counted_stamp state input = if counts input.kind then stamp_of state input.path else 0

-- Stamps of the inputs of an edge. None is missing of those that count.
pub record AreStamps (state : State) (build : BuildValue) (stamps : List ℕ) : Type 0 where
  pub are : stamps ≡ map (counted_stamp state) (inputs state build)
  pub there : (input : InputValue) → Contains (inputs state build) input → counts input.kind ≡ true
      → (stamp_of state input.path == 0) ≡ false
