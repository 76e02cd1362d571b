use Rattle.std.proofs.Common.{◌≡◌, ◌+◌, map}
use Rattle.std.specs.List.{range_with_len}
use Rattle.rev_compared.specs.Matched.{match_of}
use Rattle.rev_compared.proofs.matching.matched.Given as goal

-- the numbers there of those so far
abbrev pub invariant-loop-passed : goal.invariant-loop-passed
invariant-loop-passed l =
    l.all.items ≡ map (match_of l.history.timeline l.lasts l.twins l.others) (range_with_len 0 (l.passed + 1))
