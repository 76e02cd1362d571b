use Rattle.std.proofs.Common.{◌≡◌, ℕ, ◌<◌, ◌||◌, false, get_or, length, take}
use Rattle.rev_bars.specs.Racing.{is_in_race}
use Rattle.rev_bars.proofs.racing.mark_races.Given as goal

-- those of the races so far
abbrev pub invariant-loop-race : goal.invariant-loop-race
invariant-loop-race l =
    (e : ℕ) → e < length l.initial.marks → get_or l.marks e false
    ≡ (get_or l.initial.marks e false || is_in_race (take l.race-index l.races) e)
