use Rattle.std.proofs.Common.{◌≡◌, drop}
use Rattle.rev_order_text.specs.Ordered.{said_again}
use Rattle.rev_order_text.proofs.ordered.say_again.Given as goal

-- what is left is said to the history so far
abbrev pub invariant-loop-number : goal.invariant-loop-number
invariant-loop-number l = said_again l.history.timeline l.other.timeline (drop l.number-index l.numbers) ≡ said_again l.history.timeline l.fn.other.timeline l.numbers
