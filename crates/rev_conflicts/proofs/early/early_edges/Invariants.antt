use Rattle.rev_conflicts.proofs.EarlyLemmas.{AreEarlyBy}
use Rattle.rev_conflicts.proofs.early.early_edges.Given as goal

abbrev pub invariant-loop-file : goal.invariant-loop-file
invariant-loop-file l = AreEarlyBy l.graph.manifest.builds l.files l.file-index l.marks.items
