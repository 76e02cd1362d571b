use Rattle.std.proofs.Common.{◌≡◌}
use Rattle.rev_witness.specs.Sources.{HaveSources}
use Rattle.rev_witness.specs.Witness.{AreSources, opening_with}
use Rattle.rev_witness.proofs.opening.sources_of.Given as goal

abbrev pub invariant-loop-edge : goal.invariant-loop-edge
invariant-loop-edge l = record {
  opening : l.sources.opening ≡ opening_with l.sources.paths.items;
  made : AreSources l.graph.manifest.builds l.sources.paths.items;
  there : HaveSources l.graph.manifest.builds l.edge l.sources.paths.items;
}
