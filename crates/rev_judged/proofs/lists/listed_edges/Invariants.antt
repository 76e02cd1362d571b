use Rattle.std.proofs.Common.{◌≡◌, map}
use Rattle.std.specs.List.{range_with_len}
use Rattle.rev_judged.specs.Judged.{has_list}
use Rattle.rev_judged.proofs.lists.listed_edges.Given as goal

abbrev pub invariant-loop-edge : goal.invariant-loop-edge
invariant-loop-edge l = l.marks.items ≡ map (has_list l.history.timeline) (range_with_len 0 l.edge)
