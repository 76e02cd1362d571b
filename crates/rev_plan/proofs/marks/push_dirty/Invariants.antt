use Rattle.std.proofs.Common.{◌≡◌, ◌&&◌, map}
use Rattle.std.specs.List.{range_with_len}
use Rattle.rev_ranks.specs.Sets.{is_marked}
use Rattle.rev_plan.specs.Plan.{is_dirty}
use Rattle.rev_plan.proofs.marks.push_dirty.Given as goal

abbrev pub invariant-loop-edge : goal.invariant-loop-edge
invariant-loop-edge l = record {
  same : l.scan ≡ l.initial.scan;
  dirty : l.dirty.items ≡ map (λ edge. is_marked l.marks edge && is_dirty l.initial.scan.graph.manifest.builds l.initial.scan.state edge) (range_with_len 0 l.edge);
}
