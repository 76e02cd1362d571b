use Rattle.rev_waits.proofs.WaitLemmas.{AreCounted}
use Rattle.rev_waits.proofs.making.makers_behind.Given as goal

abbrev pub invariant-loop-maker : goal.invariant-loop-maker
invariant-loop-maker l = AreCounted l.graph.manifest.builds l.marks.items l.maker l.makers.items
