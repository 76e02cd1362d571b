use Rattle.std.proofs.Common.{ℕ, List, length, Contains}
use Rattle.std.specs.Prelude.{◌↔◌}
use Rattle.rev_ranks.specs.Graph.{graph_of}
use Rattle.rev_unlisted.specs.Found.{IsKeyBelow}
use Rattle.rev_unlisted.proofs.answer.found_of.Given as goal

abbrev pub invariant-loop-number : goal.invariant-loop-number
invariant-loop-number l =
    (k : List ℕ) → Contains l.found k
    ↔ IsKeyBelow (length l.graph.manifest.builds) (graph_of l.steps) (graph_of l.sure_steps) (graph_of l.makers) l.edges (graph_of l.reads) l.number k
