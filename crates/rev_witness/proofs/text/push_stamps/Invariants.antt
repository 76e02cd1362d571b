use Rattle.std.proofs.Common.{◌≡◌, ◌++◌, take}
use Rattle.std.specs.List.{flat_map}
use Rattle.rev_witness.specs.Words.{stamp_line}
use Rattle.rev_witness.proofs.text.push_stamps.Given as goal

abbrev pub invariant-loop-path : goal.invariant-loop-path
invariant-loop-path l = l.text.items ≡ l.initial.text.items ++ flat_map stamp_line (take l.path-index l.paths)
