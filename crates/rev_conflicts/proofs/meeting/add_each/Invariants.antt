use Rattle.std.proofs.Common.{ℕ, List, get_or, Contains, ◌⊎◌}
use Rattle.std.specs.Prelude.{◌↔◌}
use Rattle.rev_ranks.specs.Graph.{graph_of, successors_of}
use Rattle.rev_conflicts.specs.Tables.{IsKeyBy, SomeBelow, place_in}
use Rattle.rev_conflicts.proofs.meeting.add_each.Given as goal

abbrev pub invariant-loop-number : goal.invariant-loop-number
invariant-loop-number l =
    (k : List ℕ) → Contains l.found k
    ↔ (Contains l.initial.found k
    ⊎ SomeBelow (λ i. IsKeyBy l.graph.manifest.builds l.early l.edges l.user l.used_by (place_in l.of_folders (get_or l.numbers i 0)) (successors_of (graph_of l.lists) (get_or l.numbers i 0)) k) l.number-index)
