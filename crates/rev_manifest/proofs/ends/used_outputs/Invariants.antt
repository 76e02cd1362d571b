use Rattle.std.proofs.Common.{◌≡◌, true, take, List, ℕ}
use Rattle.std.specs.List.{flat_map}
use Rattle.rev_manifest.specs.Names.{has_path}
use Rattle.rev_manifest.specs.Manifest.{inputs_of}
use Rattle.rev_manifest.proofs.ends.used_outputs.Given as goal

abbrev pub invariant-loop-build : goal.invariant-loop-build
invariant-loop-build l = (path : List ℕ) → has_path l.outputs.keys path ≡ true → has_path l.used.keys path ≡ has_path (flat_map inputs_of (take l.build-index l.builds)) path
