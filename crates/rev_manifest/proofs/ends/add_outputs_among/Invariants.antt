use Rattle.std.proofs.Common.{◌≡◌, ◌||◌, true, take, List, ℕ}
use Rattle.rev_manifest.specs.Names.{has_path}
use Rattle.rev_manifest.proofs.ends.add_outputs_among.Given as goal

abbrev pub invariant-loop-name : goal.invariant-loop-name
invariant-loop-name l =
    (path : List ℕ) → has_path l.outputs.keys path ≡ true → has_path l.used.keys path ≡ (has_path l.initial.used.keys path || has_path (take l.name-index l.names) path)
