use Rattle.std.proofs.Common.{◌≡◌, drop}
use Rattle.std.specs.List.{list_any}
use Rattle.rev_filters.specs.Patterns.{matches}
use Rattle.rev_queries.proofs.edges.any_matches.Given as goal

abbrev pub invariant-loop-output : goal.invariant-loop-output
invariant-loop-output l = list_any (matches l.pattern) l.outputs ≡ list_any (matches l.pattern) (drop l.output-index l.outputs)
