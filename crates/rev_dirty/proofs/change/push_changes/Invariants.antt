use Rattle.std.proofs.Common.{◌≡◌, ◌++◌, map, take}
use Rattle.rev_dirty.specs.Changes.{AreChanges}
use Rattle.rev_dirty.specs.Inputs.{an}
use Rattle.rev_dirty.specs.Reasons.{is_rebuilt}
use Rattle.rev_dirty.proofs.change.push_changes.Given as goal

abbrev pub invariant-loop-place : goal.invariant-loop-place
invariant-loop-place l =
    record {
      changed : AreChanges l.graph.manifest.builds l.cells.state l.changed.entries;
      changes : l.changes.items ≡ l.initial.changes.items ++ map (is_rebuilt l.graph.manifest.builds l.cells.state) (map (an l.kind) (take l.place l.paths));
    }
