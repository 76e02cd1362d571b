use Rattle.std.proofs.Common.{◌≡◌}
use Rattle.std.specs.Prelude.{filter}
use Rattle.std.specs.List.{range_with_len}
use Rattle.rev_races.specs.Judged.{keeps_none}
use Rattle.rev_races.proofs.judged.without_deps.Given as goal

abbrev pub invariant-loop-edge : goal.invariant-loop-edge
invariant-loop-edge l = l.edges.items ≡ filter (keeps_none l.graph.manifest.builds) (range_with_len 0 l.edge)
