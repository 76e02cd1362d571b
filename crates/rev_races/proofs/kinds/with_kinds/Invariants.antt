use Rattle.std.proofs.Common.{◌≡◌, map, take}
use Rattle.rev_races.specs.Kinds.{with_kind}
use Rattle.rev_races.specs.Searches.{IsKept}
use Rattle.rev_races.proofs.kinds.with_kinds.Given as goal

abbrev pub invariant-loop-one : goal.invariant-loop-one
invariant-loop-one l = record {
  races : l.races.items ≡ map (with_kind l.graph.manifest.builds) (take l.one-index l.told);
  kept : IsKept l.graph.manifest.builds l.search.edge l.search.waited.items;
}
