use Rattle.rev_queries.specs.Critical.{is_recent}
use Rattle.rev_queries.proofs.ChainLemmas.{recent-within}
use Rattle.rev_queries.proofs.ListLemmas.{filtered-by}
use Rattle.rev_queries.proofs.chain.recent.Goals as goal

pub loop-run-preserved : goal.loop-run-preserved
loop-run-preserved c = record {
  recent =
      filtered-by (is_recent c.args.graph.now.manifest.builds c.args.plan) c.args.runs.now c.loop-run.run-index _
      c.is_recent.result c.loop-run.recent.items c.add_where.new.runs.items c.loop-run-test.true
      c.loop-run.invariant.recent c.is_recent.ensures c.in_ok-add_where.ensures;
  within =
      recent-within c.args.graph.now.manifest.builds c.args.plan c.loop-run.recent.items c.add_where.new.runs.items _
      c.is_recent.result c.is_recent.ensures c.in_ok-add_where.ensures c.loop-run.invariant.within;
}
