use Rattle.std.proofs.Common.{◌≡◌, map}
use Rattle.std.specs.List.{range_with_len}
use Rattle.rev_ranks.specs.Graph.{graph_of}
use Rattle.rev_plan.proofs.StepsLemmas.{listed_at}
use Rattle.rev_plan.proofs.steps.listed_among.Given as goal

abbrev pub invariant-loop-edge : goal.invariant-loop-edge
invariant-loop-edge l = graph_of l.all.items ≡ map (listed_at l.graph.manifest.builds l.cells.state) (range_with_len 0 l.edge)
