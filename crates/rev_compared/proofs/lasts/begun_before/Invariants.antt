use Rattle.std.proofs.Common.{◌≡◌, filter, take}
use Rattle.rev_compared.specs.Lasts.{is_begun_before}
use Rattle.rev_compared.proofs.lasts.begun_before.Given as goal

-- those so far
abbrev pub invariant-loop-run : goal.invariant-loop-run
invariant-loop-run l = l.begun.items ≡ filter (is_begun_before l.number) (take l.run-index l.runs)
