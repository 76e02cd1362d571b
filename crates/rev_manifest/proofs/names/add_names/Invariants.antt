use Rattle.std.proofs.Common.{◌≡◌, ◌||◌, take, List, ℕ}
use Rattle.rev_manifest.specs.Names.{has_path}
use Rattle.rev_manifest.proofs.names.add_names.Given as goal

abbrev pub invariant-loop-name : goal.invariant-loop-name
invariant-loop-name l = (path : List ℕ) → has_path l.set.keys path ≡ (has_path l.initial.set.keys path || has_path (take l.name-index l.names) path)
