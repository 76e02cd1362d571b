use Rattle.std.proofs.Common.{take}
use Rattle.rev_ranks.specs.Graph.{graph_of}
use Rattle.rev_ranks.specs.Sets.{AddsSteps}
use Rattle.rev_ranks.proofs.searches.push_back_steps.Given as goal

abbrev pub invariant-loop-next : goal.invariant-loop-next
invariant-loop-next l = AddsSteps l.node (take l.next-index l.nexts) (graph_of l.initial.reversed.items) (graph_of l.reversed.items)
