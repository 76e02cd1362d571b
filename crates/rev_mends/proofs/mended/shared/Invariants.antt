use Rattle.rev_races.specs.Searches.{IsKept}
use Rattle.rev_mends.proofs.mended.shared.Given as goal

abbrev pub invariant-loop-mend : goal.invariant-loop-mend
invariant-loop-mend l = IsKept l.graph.manifest.builds l.search.edge l.search.waited.items
