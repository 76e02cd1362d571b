use Rattle.std.proofs.Common.{◌≡◌, not, filter, take}
use Rattle.std.specs.List.{flat_map}
use Rattle.rev_manifest.specs.Names.{has_path}
use Rattle.rev_manifest.specs.Manifest.{outputs_of}
use Rattle.rev_manifest.proofs.ends.other_outputs.Given as goal

abbrev pub invariant-loop-build : goal.invariant-loop-build
invariant-loop-build l = l.left.items ≡ filter (λ path. not (has_path l.set.keys path)) (flat_map outputs_of (take l.build-index l.builds))
