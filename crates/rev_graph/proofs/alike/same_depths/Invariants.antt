use Rattle.std.proofs.Common.{◌≡◌, bytes_eq, drop, length}
use Rattle.rev_manifest.specs.Seen.{seen_pools}
use Rattle.rev_graph.specs.Alike.{depths_of}
use Rattle.rev_graph.proofs.alike.same_depths.Given as goal

-- what is left decides
abbrev pub invariant-loop-place : goal.invariant-loop-place
invariant-loop-place l =
    record {
      same : bytes_eq (depths_of (seen_pools (drop l.place l.pools))) (depths_of (seen_pools (drop l.place l.others))) ≡ bytes_eq (depths_of (seen_pools l.pools)) (depths_of (seen_pools l.others));
      one_each : length l.others ≡ length l.pools;
    }
