use Rattle.std.proofs.Common.{◌≡◌, length, reverse}
use Rattle.std.specs.Prelude.{find}
use Rattle.rev_prompt.specs.Named.{is_meant_at}
use Rattle.rev_prompt.proofs.events.last_at.Given as goal

-- the last one is among those that are left
abbrev pub invariant-loop-number : goal.invariant-loop-number
invariant-loop-number l =
    find (is_meant_at l.history.timeline l.name l.path) (reverse l.rest)
    ≡ find (is_meant_at l.history.timeline l.name l.path) (reverse l.history.timeline.kept)

abbrev pub decreases-loop-number : goal.decreases-loop-number
decreases-loop-number l = length l.rest
