use Rattle.std.proofs.Common.{◌≡◌, ◌≤◌, drop, length}
use Rattle.rev_fields.specs.Parts.{slices_of}
use Rattle.rev_filters.specs.Patterns.{begins}
use Rattle.rev_filters.proofs.matching.begins.Given as goal

abbrev pub invariant-loop-place : goal.invariant-loop-place
invariant-loop-place l = record {
  inside : l.place ≤ length l.components;
  same : begins (slices_of l.parts) (slices_of l.components) ≡ begins (slices_of (drop l.place l.parts)) (slices_of (drop l.place l.components));
}
