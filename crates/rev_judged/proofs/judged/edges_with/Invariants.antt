use Rattle.std.proofs.Common.{◌≡◌}
use Rattle.std.specs.Prelude.{filter}
use Rattle.std.specs.List.{range_with_len}
use Rattle.rev_judged.specs.Judged.{is_unjudged_as}
use Rattle.rev_judged.proofs.judged.edges_with.Given as goal

abbrev pub invariant-loop-edge : goal.invariant-loop-edge
invariant-loop-edge l = l.edges.items ≡ filter (is_unjudged_as l.history.timeline l.others) (range_with_len 0 l.edge)
