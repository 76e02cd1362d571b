use Rattle.std.proofs.Common.{◌≡◌, ◌++◌, map, take}
use Rattle.rev_dirty.specs.Facts.{input_facts}
use Rattle.rev_dirty.proofs.input.push_inputs.Given as goal

abbrev pub invariant-loop-place : goal.invariant-loop-place
invariant-loop-place l =
    l.inputs.items ≡ l.initial.inputs.items ++ map (input_facts l.graph.manifest.builds l.cells.state l.kind) (take l.place l.paths)
