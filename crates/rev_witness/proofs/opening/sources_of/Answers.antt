use Rattle.std.proofs.Common.{arith}
use Rattle.rev_witness.proofs.WitnessLemmas.{all_there, have_more}
use Rattle.rev_witness.proofs.opening.sources_of.Goals as goal

pub loop-edge-preserved : goal.loop-edge-preserved
loop-edge-preserved c = record {
  opening = c.in_ok-add_inputs.ensures.opening;
  made = c.in_ok-add_inputs.ensures.made;
  there =
      have_more c.args.graph.now.manifest.builds c.loop-edge.edge c.loop-edge.sources.paths.items c.add_inputs.new.sources.paths.items c.loop-edge.invariant.there c.in_ok-add_inputs.ensures.adds;
}

pub returns-clause-there : goal.returns-clause-there
returns-clause-there c =
    all_there c.args.graph.now.manifest.builds c.loop-edge.sources.opening c.loop-edge.sources.paths.items c.loop-edge.edge c.loop-edge.invariant.opening
    (omega (arith, c.loop-edge-test.false, c.loop-edge.auto.edge-end, c.edges-edge-end.ensures.edges)) c.loop-edge.invariant.there
