use Rattle.std.proofs.Common.{◌≡◌, take}
use Rattle.rev_witness.specs.Sources.{AddsSources}
use Rattle.rev_witness.specs.Witness.{AreSources, opening_with}
use Rattle.rev_witness.proofs.opening.add_sources.Given as goal

abbrev pub invariant-loop-path : goal.invariant-loop-path
invariant-loop-path l = record {
  opening : l.sources.opening ≡ opening_with l.sources.paths.items;
  made : AreSources l.graph.manifest.builds l.sources.paths.items;
  adds : AddsSources l.graph.manifest.builds (take l.path-index l.paths) l.initial.sources.paths.items l.sources.paths.items;
}
