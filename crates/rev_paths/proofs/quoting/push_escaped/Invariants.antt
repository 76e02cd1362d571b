use Rattle.std.proofs.Common.{◌≡◌, ◌++◌, take}
use Rattle.std.specs.List.{flat_map}
use Rattle.rev_paths.specs.Quoting.{escaped}
use Rattle.rev_paths.proofs.quoting.push_escaped.Given as goal

-- what is written, and what is left to write
abbrev pub invariant-loop-b : goal.invariant-loop-b
invariant-loop-b l = l.text.items ≡ l.initial.text.items ++ flat_map escaped (take l.b-index l.bytes)
