use Rattle.std.proofs.Common.{◌≡◌, ◌-◌, length, map, take}
use Rattle.std.specs.List.{AllByRecursion}
use Rattle.rev_queries.specs.Rebuilds.{EntryFits, entry_in}
use Rattle.rev_queries.proofs.rebuild.entries_of.Given as goal

-- those of the places so far
abbrev pub invariant-loop-place : goal.invariant-loop-place
invariant-loop-place l = record {
  entries : l.entries.items ≡ map (entry_in l.cells.state) (take l.place l.cells.places);
  fits : AllByRecursion EntryFits l.entries.items;
}

abbrev pub decreases-loop-place : goal.decreases-loop-place
decreases-loop-place l = length l.cells.places - l.place
