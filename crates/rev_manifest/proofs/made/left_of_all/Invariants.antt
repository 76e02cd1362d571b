use Rattle.std.proofs.Common.{◌≡◌, sum, drop}
use Rattle.rev_manifest.specs.Made.{left_of}
use Rattle.rev_manifest.proofs.made.left_of_all.Given as goal

abbrev pub invariant-loop-bytes : goal.invariant-loop-bytes
invariant-loop-bytes l = left_of l.left (sum (drop l.bytes-index l.lengths)) ≡ left_of l.room (sum l.lengths)
