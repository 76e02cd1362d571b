use Rattle.std.proofs.Common.{◌≡◌, take}
use Rattle.std.specs.List.{filter_map}
use Rattle.rev_races.specs.Searches.{IsKept}
use Rattle.rev_conflicts.specs.Tables.{scene, with_kind}
use Rattle.rev_conflicts.proofs.kinds.with_kinds.Given as goal

abbrev pub invariant-loop-one : goal.invariant-loop-one
invariant-loop-one l = record {
  conflicts : l.conflicts.items ≡ filter_map (with_kind (scene l.graph.manifest.builds l.files l.paths l.commands l.edges l.hidden)) (take l.one-index l.told);
  kept : IsKept l.graph.manifest.builds l.search.edge l.search.waited.items;
}
