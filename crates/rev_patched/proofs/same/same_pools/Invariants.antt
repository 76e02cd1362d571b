use Rattle.std.proofs.Common.{◌≡◌, drop, length}
use Rattle.rev_manifest.specs.Seen.{seen_pools}
use Rattle.rev_patched.specs.Same.{same_pools}
use Rattle.rev_patched.proofs.same.same_pools.Given as goal

-- what is left decides
abbrev pub invariant-loop-place : goal.invariant-loop-place
invariant-loop-place l =
    record {
      same : same_pools (seen_pools (drop l.place l.pools)) (seen_pools (drop l.place l.others)) ≡ same_pools (seen_pools l.pools) (seen_pools l.others);
      one_each : length l.others ≡ length l.pools;
    }
