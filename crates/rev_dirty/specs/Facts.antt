-- What the reasons ask of the inputs and the outputs of an edge.
use Rattle.std.specs.Prelude.{ℕ, ◌==◌, List, Option, Some, None, is_some, if◌then◌else◌}
use Rattle.rev_manifest.specs.Manifest.{BuildValue}
use Rattle.rev_graph.specs.Graph.{build_at, producer_of}
use Rattle.rev_cells.specs.State.{State, stamp_of}
use Rattle.rev_dirty.specs.declared.input.InputKind.{InputKind}
use Rattle.rev_dirty.specs.declared.input.InputKind.TheVariants.{OnLine, OrderOnly, Listed}
use Rattle.rev_dirty.specs.declared.input.Input.{Input}
use Rattle.rev_dirty.specs.declared.output.Output.{Output}
use Rattle.rev_dirty.specs.Inputs.{InputValue}
use Rattle.rev_dirty.specs.Reasons.{effective_stamp, lacks_record, has_other_command}
use Rattle.std.specs.Prelude.{false}

-- the edge of a number, where it is phony
abbrev pub phony_only : List BuildValue → Option ℕ → Option ℕ
phony_only builds None = None
phony_only builds (Some edge) = if (build_at builds edge).phony then Some edge else None

-- the phony edge through which a path is seen, which is so where it is missing
abbrev pub seen_edge : List BuildValue → State → List ℕ → Option ℕ
seen_edge builds state path = if stamp_of state path == 0 then phony_only builds (producer_of builds path) else None

-- what is asked of an input; of an order-only one nothing
abbrev pub input_facts : List BuildValue → State → InputKind → List ℕ → Input
input_facts builds state OrderOnly path = record { kind = OrderOnly; stamp = 0; produced = false; through = None }
input_facts builds state OnLine path =
    record {
      kind = OnLine;
      stamp = stamp_of state path;
      produced = is_some (producer_of builds path);
      through = seen_edge builds state path;
    }
input_facts builds state Listed path =
    record {
      kind = Listed;
      stamp = stamp_of state path;
      produced = is_some (producer_of builds path);
      through = seen_edge builds state path;
    }

abbrev pub facts_of_input : List BuildValue → State → InputValue → Input
facts_of_input builds state input = input_facts builds state input.kind input.path

-- what is asked of an output
abbrev pub output_facts : State → BuildValue → List ℕ → Output
output_facts state build path =
    record {
      stamp = stamp_of state path;
      effective = effective_stamp state build path;
      unrecorded = lacks_record state build path;
      command_changed = has_other_command state build path;
    }
