use Rattle.std.proofs.Common.{◌≡◌, ◌++◌, take}
use Rattle.rev_patch.specs.Additions.{written}
use Rattle.rev_patch.proofs.changes.push_path.Given as goal

abbrev pub invariant-loop-byte : goal.invariant-loop-byte
invariant-loop-byte l = l.text.items ≡ l.initial.text.items ++ written (take l.byte-index l.path)
