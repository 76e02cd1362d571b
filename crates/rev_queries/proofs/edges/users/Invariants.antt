use Rattle.std.proofs.Common.{◌≡◌}
use Rattle.std.specs.Prelude.{filter}
use Rattle.std.specs.List.{range_with_len}
use Rattle.rev_queries.specs.Edges.{has_output_of}
use Rattle.rev_queries.proofs.edges.users.Given as goal

-- those so far
abbrev pub invariant-loop-other : goal.invariant-loop-other
invariant-loop-other l = l.edges.items ≡ filter (has_output_of l.graph.manifest.builds l.edge) (range_with_len 0 l.other)
