use Rattle.rev_separation.specs.Tallies.{AreTallies}
use Rattle.rev_separation.proofs.tally.tallied.Given as goal

abbrev pub invariant-loop-other : goal.invariant-loop-other
invariant-loop-other l = AreTallies l.builds l.other l.failed l.anchor l.after l.tallies.items
