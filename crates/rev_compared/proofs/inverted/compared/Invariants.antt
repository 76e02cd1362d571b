use Rattle.std.proofs.Common.{◌≡◌, filter, take}
use Rattle.rev_compared.specs.Inverted.{is_compared}
use Rattle.rev_compared.proofs.inverted.compared.Given as goal

-- those so far
abbrev pub invariant-loop-number : goal.invariant-loop-number
invariant-loop-number l =
    l.numbers.items ≡ filter (is_compared l.history.timeline l.matched) (take l.number-index l.kept)
