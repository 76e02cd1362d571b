use Rattle.std.proofs.Common.{◌≡◌}
use Rattle.std.specs.Prelude.{filter}
use Rattle.std.specs.List.{range_with_len}
use Rattle.rev_queries.specs.Edges.{has_match}
use Rattle.rev_queries.proofs.edges.edges_like.Given as goal

-- those so far
abbrev pub invariant-loop-edge : goal.invariant-loop-edge
invariant-loop-edge l = l.edges.items ≡ filter (has_match l.graph.manifest.builds l.pattern) (range_with_len 0 l.edge)
