use Rattle.std.proofs.Common.{◌≡◌, drop}
use Rattle.std.specs.List.{list_any}
use Rattle.rev_depfile.specs.Slices.{texts}
use Rattle.rev_depfile.specs.Value.{is_output}
use Rattle.rev_depfile.proofs.reader.names_output.Given as goal

-- the targets so far are no outputs
abbrev pub invariant-loop-target : goal.invariant-loop-target
invariant-loop-target l = list_any (is_output l.outputs.keys) (texts (drop l.target-index l.targets)) ≡ list_any (is_output l.outputs.keys) (texts l.targets)
