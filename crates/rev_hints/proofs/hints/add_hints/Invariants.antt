use Rattle.std.proofs.Common.{◌≡◌, ℕ, List, bytes_eq, map, take}
use Rattle.indexmap.specs.IndexSet.{contains}
use Rattle.rev_hints.specs.Changes.{change_in}
use Rattle.rev_hints.specs.Hints.{AreHintsBefore, hint_value, recorded_paths}
use Rattle.rev_hints.proofs.HintLemmas.{is_seen}
use Rattle.rev_hints.proofs.hints.add_hints.Given as goal

abbrev pub invariant-loop-place : goal.invariant-loop-place
invariant-loop-place l = record {
  hints : AreHintsBefore l.graph.manifest.builds (recorded_paths l.graph.manifest.builds l.cells.state) (change_in l.changes.entries) l.user l.place (map hint_value l.hints.items);
  seen : (path : List ℕ) → contains bytes_eq l.seen path
      ≡ is_seen (change_in l.changes.entries) (take l.place (recorded_paths l.graph.manifest.builds l.cells.state l.user)) path;
}
