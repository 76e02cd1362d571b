use Rattle.std.proofs.Common.{◌≡◌, ℕ, ◌<◌, None, get_or, length, reverse, take}
use Rattle.std.specs.Prelude.{◌&&◌, find, nat_lt}
use Rattle.rev_looked.specs.Needs.{is_left, scene}
use Rattle.rev_looked.proofs.left.note_kept.Given as goal

-- the kept events from the last one on
abbrev pub invariant-loop-passed : goal.invariant-loop-passed
invariant-loop-passed l =
    (path : ℕ) → path < length l.initial.notes → get_or l.initial.notes path None ≡ None → get_or l.notes path None
    ≡ find (λ k. nat_lt k l.before && is_left (scene l.history.timeline l.observation.paths l.observation.commands l.edges) path k)
    (take l.passed (reverse l.history.timeline.kept))
