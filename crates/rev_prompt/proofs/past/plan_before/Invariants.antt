use Rattle.std.proofs.Common.{◌≡◌, reverse, take}
use Rattle.std.specs.Prelude.{find}
use Rattle.rev_prompt.specs.Past.{is_plan_before}
use Rattle.rev_prompt.proofs.past.plan_before.Given as goal

-- the last of the kept numbers so far
abbrev pub invariant-loop-kept : goal.invariant-loop-kept
invariant-loop-kept l =
    l.plan ≡ find (is_plan_before l.history.timeline l.number) (reverse (take l.kept-index l.history.timeline.kept))
