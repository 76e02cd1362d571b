use Rattle.rev_races.proofs.EndingLemmas.{AreMarked}
use Rattle.rev_races.proofs.endings.mark_endings.Given as goal

-- those of the paths so far
abbrev pub invariant-loop-path : goal.invariant-loop-path
invariant-loop-path l = AreMarked l.paths l.initial.marks.items l.marks.items l.path-index
