use Rattle.rev_footprint.proofs.BehindLemmas.{IsAt}
use Rattle.rev_footprint.proofs.behind.add_behind.Given as goal

abbrev pub invariant-loop-next : goal.invariant-loop-next
invariant-loop-next l = IsAt l.graph.manifest.builds l.initial.edges.keys l.edges.keys l.next
