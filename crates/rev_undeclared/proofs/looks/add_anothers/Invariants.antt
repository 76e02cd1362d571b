use Rattle.std.proofs.Common.{ℕ, List, Contains, ◌⊎◌}
use Rattle.std.specs.Prelude.{◌↔◌}
use Rattle.rev_ranks.specs.Graph.{graph_of, successors_of}
use Rattle.rev_conflicts.specs.Tables.{SomeBelow}
use Rattle.rev_undeclared.specs.Tables.{IsAnothersAt}
use Rattle.rev_undeclared.proofs.looks.add_anothers.Given as goal

abbrev pub invariant-loop-path : goal.invariant-loop-path
invariant-loop-path l =
    (k : List ℕ) → Contains l.found k
    ↔ (Contains l.initial.found k ⊎ SomeBelow (λ path. IsAnothersAt l.graph.manifest.builds l.paths l.edges l.stronger path (successors_of (graph_of l.lists) path) k) l.path)
