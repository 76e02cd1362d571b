use Rattle.std.proofs.Common.{◌≡◌, map, take}
use Rattle.std.specs.List.{AllByRecursion}
use Rattle.rev_queries.specs.Rebuilds.{EntryFits, touch}
use Rattle.rev_queries.proofs.rebuild.touches.Given as goal

-- those of the paths so far
abbrev pub invariant-loop-path : goal.invariant-loop-path
invariant-loop-path l = record {
  touches : l.entries.items ≡ map touch (take l.path-index l.paths);
  fits : AllByRecursion EntryFits l.entries.items;
}
