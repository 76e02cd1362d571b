use Rattle.std.proofs.Common.{map}
use Rattle.rev_races.specs.Searches.{IsKept}
use Rattle.rev_hints.specs.Changes.{change_in}
use Rattle.rev_hints.specs.Hints.{AreHintsBefore, hint_value, recorded_paths}
use Rattle.rev_hints.proofs.hints.hints_by.Given as goal

abbrev pub invariant-loop-user : goal.invariant-loop-user
invariant-loop-user l = record {
  kept : IsKept l.graph.manifest.builds l.search.edge l.search.waited.items;
  hints : AreHintsBefore l.graph.manifest.builds (recorded_paths l.graph.manifest.builds l.cells.state) (change_in l.changes.entries) l.user 0 (map hint_value l.hints.items);
}
