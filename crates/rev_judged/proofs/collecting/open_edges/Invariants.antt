use Rattle.std.proofs.Common.{◌≡◌, map}
use Rattle.std.specs.List.{range_with_len}
use Rattle.rev_judged.specs.Judged.{is_open}
use Rattle.rev_judged.proofs.collecting.open_edges.Given as goal

abbrev pub invariant-loop-edge : goal.invariant-loop-edge
invariant-loop-edge l = l.marks.items ≡ map (is_open l.history.timeline) (range_with_len 0 l.edge)
