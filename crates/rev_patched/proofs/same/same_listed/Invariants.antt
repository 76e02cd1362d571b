use Rattle.std.proofs.Common.{◌≡◌, drop, length}
use Rattle.rev_patched.specs.Same.{same_from}
use Rattle.rev_patched.proofs.same.same_listed.Given as goal

-- what is left decides
abbrev pub invariant-loop-place : goal.invariant-loop-place
invariant-loop-place l =
    record {
      same : same_from l.place l.orders (drop l.place l.edges) (drop l.place l.others) ≡ same_from 0 l.orders l.edges l.others;
      one_each : length l.others ≡ length l.edges;
    }
