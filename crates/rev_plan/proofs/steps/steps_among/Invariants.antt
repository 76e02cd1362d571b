use Rattle.std.proofs.Common.{◌≡◌, map}
use Rattle.std.specs.List.{range_with_len}
use Rattle.rev_ranks.specs.Graph.{graph_of}
use Rattle.rev_plan.proofs.StepsLemmas.{listed_step}
use Rattle.rev_plan.proofs.steps.steps_among.Given as goal

abbrev pub invariant-loop-edge : goal.invariant-loop-edge
invariant-loop-edge l = graph_of l.all.items ≡ map (listed_step l.along l.graph.manifest.builds (graph_of l.listed) l.marks) (range_with_len 0 l.edge)
