use Rattle.std.proofs.Common.{◌≡◌, map}
use Rattle.std.specs.List.{range_with_len}
use Rattle.rev_judged.specs.Judged.{sources_of}
use Rattle.rev_ranks.specs.Graph.{graph_of}
use Rattle.rev_judged.proofs.collecting.all_sources.Given as goal

abbrev pub invariant-loop-edge : goal.invariant-loop-edge
invariant-loop-edge l = graph_of l.steps.items ≡ map (sources_of l.history.timeline) (range_with_len 0 l.edge)
