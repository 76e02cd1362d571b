use Rattle.std.proofs.Common.{◌≡◌, map}
use Rattle.std.specs.List.{range_with_len}
use Rattle.rev_plan.specs.Steps.{mark_by}
use Rattle.rev_plan.proofs.marks.marks_by.Given as goal

abbrev pub invariant-loop-edge : goal.invariant-loop-edge
invariant-loop-edge l = l.marks.items ≡ map (mark_by l.wanted l.waiting) (range_with_len 0 l.edge)
