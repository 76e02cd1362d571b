use Rattle.rev_races.proofs.EndingLemmas.{AreEndingsBefore}
use Rattle.rev_races.proofs.endings.output_endings.Given as goal

-- those of the edges so far
abbrev pub invariant-loop-edge : goal.invariant-loop-edge
invariant-loop-edge l = AreEndingsBefore l.graph.manifest.builds l.marks.items l.edge
