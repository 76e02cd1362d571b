use Rattle.std.proofs.Common.{drop}
use Rattle.rev_prompt.specs.Past.{IsLed, IsOpeningOf}
use Rattle.rev_prompt.proofs.past.state_by.Given as goal

-- on the way, where the kept numbers from here on are left
abbrev pub invariant-loop-number : goal.invariant-loop-number
invariant-loop-number l =
    IsOpeningOf l.history.timeline l.opening
    → IsLed l.history.timeline l.last (drop l.number-index l.history.timeline.kept) l.cells
