use Rattle.std.proofs.Common.{◌≡◌, ◌≤◌, drop, length}
use Rattle.rev_filters.specs.Patterns.{matches}
use Rattle.rev_filters.proofs.matching.matches.Given as goal

abbrev pub invariant-loop-place : goal.invariant-loop-place
invariant-loop-place l = record {
  inside : l.place ≤ length l.bytes;
  same : matches l.part l.bytes ≡ matches (drop l.place l.part) (drop l.place l.bytes);
}
