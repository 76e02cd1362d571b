use Rattle.std.proofs.Common.{◌≡◌, ℕ, ◌<◌, ◌||◌, false, get_or, length, take}
use Rattle.rev_bars.specs.Racing.{is_in_conflict}
use Rattle.rev_bars.proofs.racing.mark_conflicts.Given as goal

-- those of the conflicts so far
abbrev pub invariant-loop-conflict : goal.invariant-loop-conflict
invariant-loop-conflict l =
    (e : ℕ) → e < length l.initial.marks → get_or l.marks e false
    ≡ (get_or l.initial.marks e false || is_in_conflict (take l.conflict-index l.conflicts) e)
