use Rattle.std.proofs.Common.{◌≡◌, ◌+◌, ◌<◌, ℕ, get_or}
use Rattle.rev_ranks.specs.Graph.{graph_of, successors_of}
use Rattle.rev_unlisted.specs.declared.input.Cover.TheVariants.{Neither}
use Rattle.rev_unlisted.specs.Found.{cover_by, met_by}
use Rattle.rev_unlisted.proofs.answer.are_neither.Given as goal

abbrev pub invariant-loop-path : goal.invariant-loop-path
invariant-loop-path l =
    (k : ℕ) → k < l.path-index
    → cover_by (met_by (successors_of (graph_of l.makers) (get_or l.files k 0)) (l.edges + get_or l.files k 0) l.sure)
    (met_by (successors_of (graph_of l.makers) (get_or l.files k 0)) (l.edges + get_or l.files k 0) l.met)
    ≡ Neither
