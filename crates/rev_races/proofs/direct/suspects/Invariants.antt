use Rattle.std.proofs.Common.{bytes_eq}
use Rattle.indexmap.specs.IndexSet.{contains}
use Rattle.rev_races.proofs.FirstLemmas.{AreSifted}
use Rattle.rev_races.proofs.direct.suspects.Given as goal

abbrev pub invariant-loop-place : goal.invariant-loop-place
invariant-loop-place l = AreSifted l.graph.manifest.builds l.user l.paths l.place (contains bytes_eq l.seen) l.places.items
