use Rattle.std.proofs.Common.{take}
use Rattle.rev_accesses.specs.Value.{Shows}
use Rattle.rev_causal.specs.Chosen.{chosen}
use Rattle.rev_history.specs.Steps.{place_prints}
use Rattle.rev_history.proofs.order.accesses_of.Given as goal

-- the lists of the numbers so far
abbrev pub invariant-loop-number : goal.invariant-loop-number
invariant-loop-number l = Shows l.accesses (chosen (place_prints l.accepted.entries l.steps) (take l.number-index l.numbers))
