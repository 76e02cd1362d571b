use Rattle.std.proofs.Common.{◌≡◌, ◌≤◌, drop}
use Rattle.rev_manifest.specs.Depths.{depth_from}
use Rattle.rev_manifest.proofs.depth.depth_from.Given as goal

abbrev pub invariant-loop-byte : goal.invariant-loop-byte
invariant-loop-byte l = record { value : depth_from l.so_far (drop l.byte-index l.digits) ≡ depth_from l.fn.number l.digits; small : l.so_far ≤ 1000000 }
