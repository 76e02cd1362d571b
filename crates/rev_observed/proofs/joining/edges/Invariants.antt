use Rattle.std.proofs.Common.{◌≡◌, ◌<◌, Some, length, map, take}
use Rattle.std.specs.List.{AllByRecursion}
use Rattle.rev_observed.specs.Joins.{edge_of}
use Rattle.rev_observed.specs.Observations.{outputs_of}
use Rattle.rev_observed.proofs.joining.edges.Given as goal

abbrev pub invariant-loop-place : goal.invariant-loop-place
invariant-loop-place l = record {
  joined : map Some l.edges.items ≡ map (edge_of l.graph.manifest.builds) (take l.place (outputs_of l.commands));
  within : AllByRecursion (λ edge. edge < length l.graph.manifest.builds) l.edges.items;
}
