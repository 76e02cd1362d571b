use Rattle.std.proofs.Common.{◌≡◌, drop, length}
use Rattle.std.specs.Cmp.Lexicographic.{pointwise}
use Rattle.rev_compared.specs.Differences.{both_or_neither}
use Rattle.rev_compared.proofs.differences.same_presence.Given as goal

-- what is left decides
abbrev pub invariant-loop-place : goal.invariant-loop-place
invariant-loop-place l =
    record {
      same : pointwise both_or_neither (drop l.place l.stamps) (drop l.place l.others) ≡ pointwise both_or_neither l.stamps l.others;
      one_each : length l.others ≡ length l.stamps;
    }
