use Rattle.std.proofs.Common.{◌≡◌, ◌++◌, take}
use Rattle.std.specs.List.{flat_map}
use Rattle.rev_patch.specs.Additions.{spaced_path}
use Rattle.rev_patch.proofs.changes.push_spaced.Given as goal

abbrev pub invariant-loop-addition : goal.invariant-loop-addition
invariant-loop-addition l = l.text.items ≡ l.initial.text.items ++ flat_map spaced_path (take l.addition-index l.additions)
