use Rattle.std.proofs.Common.{◌≡◌, take, List, ℕ}
use Rattle.std.specs.List.{flat_map}
use Rattle.rev_manifest.specs.Names.{has_path}
use Rattle.rev_manifest.specs.Manifest.{outputs_of}
use Rattle.rev_manifest.proofs.ends.all_outputs.Given as goal

abbrev pub invariant-loop-build : goal.invariant-loop-build
invariant-loop-build l = (path : List ℕ) → has_path l.set.keys path ≡ has_path (flat_map outputs_of (take l.build-index l.builds)) path
