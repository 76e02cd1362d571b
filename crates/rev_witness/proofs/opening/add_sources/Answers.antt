use Rattle.rev_witness.proofs.WitnessLemmas.{adds_more}
use Rattle.rev_witness.proofs.opening.add_sources.Goals as goal

pub loop-path-preserved : goal.loop-path-preserved
loop-path-preserved c = record {
  opening = c.in_ok-add_source.ensures.opening;
  made = c.in_ok-add_source.ensures.made;
  adds =
      adds_more c.args.graph.now.manifest.builds c.args.paths.now c.loop-path.path-index c.path-item.result c.args.sources.now.paths.items c.loop-path.sources.paths.items
      c.add_source.new.sources.paths.items c.loop-path-test.true c.path-item.is c.loop-path.invariant.adds c.in_ok-add_source.ensures.adds;
}
