use Rattle.std.proofs.Common.{ℕ, ◌<◌, get_or, []}
use Rattle.rev_graph.specs.Graph.{Produces}
use Rattle.rev_races.proofs.order.makes_one_of.Given as goal

abbrev pub invariant-loop-file : goal.invariant-loop-file
invariant-loop-file l = (k : ℕ) → k < l.file-index → Produces l.graph.manifest.builds l.edge (get_or l.files k []) → ⊥
