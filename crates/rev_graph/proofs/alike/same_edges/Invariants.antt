use Rattle.std.proofs.Common.{◌≡◌, drop, length}
use Rattle.std.specs.Cmp.Lexicographic.{pointwise}
use Rattle.rev_manifest.specs.Seen.{seen_pools}
use Rattle.rev_graph.specs.Alike.{same_edge}
use Rattle.rev_graph.proofs.alike.same_edges.Given as goal

-- what is left decides
abbrev pub invariant-loop-place : goal.invariant-loop-place
invariant-loop-place l =
    record {
      same : pointwise (same_edge (seen_pools l.pools) (seen_pools l.others)) (drop l.place l.edges) (drop l.place l.other_edges) ≡ pointwise (same_edge (seen_pools l.pools) (seen_pools l.others)) l.edges l.other_edges;
      one_each : length l.other_edges ≡ length l.edges;
    }
