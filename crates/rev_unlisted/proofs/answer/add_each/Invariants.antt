use Rattle.std.proofs.Common.{ℕ, List, get_or, length, Contains, ◌⊎◌}
use Rattle.std.specs.Prelude.{◌↔◌}
use Rattle.rev_ranks.specs.Graph.{graph_of}
use Rattle.rev_conflicts.specs.Tables.{SomeBelow}
use Rattle.rev_unlisted.proofs.AnswerLemmas.{KeyOne}
use Rattle.rev_unlisted.proofs.answer.add_each.Given as goal

abbrev pub invariant-loop-path : goal.invariant-loop-path
invariant-loop-path l =
    (k : List ℕ) → Contains l.found k
    ↔ (Contains l.initial.found k ⊎ SomeBelow (λ i. KeyOne (length l.graph.manifest.builds) (graph_of l.makers) l.sure l.met l.user l.used_by (get_or l.files i 0) k) l.path-index)
