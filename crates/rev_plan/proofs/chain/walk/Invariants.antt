use Rattle.std.proofs.Common.{◌≡◌, []}
use Rattle.rev_ranks.specs.Sets.{unmarked}
use Rattle.rev_plan.proofs.ChainLemmas.{IsUnderWay}
use Rattle.rev_plan.proofs.chain.walk.Given as goal

abbrev pub invariant-turns : goal.invariant-turns
invariant-turns l = record {
  graph : l.scan.graph ≡ l.graph;
  state : l.scan.state ≡ l.cells.state;
  none : l.reasons.items ≡ [];
  way : IsUnderWay l.graph.manifest.builds l.cells.state l.fn.edge l.in_chain.items l.steps.items l.last;
}

abbrev pub decreases-turns : goal.decreases-turns
decreases-turns l = unmarked l.in_chain.items
