use Rattle.std.proofs.Common.{take}
use Rattle.rev_causal.specs.Chosen.{chosen}
use Rattle.rev_hints.specs.Changes.{AreNoted}
use Rattle.rev_hints.proofs.changes.changes_in.Given as goal

abbrev pub invariant-loop-number : goal.invariant-loop-number
invariant-loop-number l =
    AreNoted l.graph.manifest.builds l.names.entries (chosen l.history.timeline.accepted (take l.number-index l.history.timeline.kept)) l.running.items l.changes.entries
