use Rattle.std.proofs.Common.{◌≡◌, ℕ, ◌<◌, None, get_or, length, take}
use Rattle.std.specs.Prelude.{◌&&◌, find, nat_lt}
use Rattle.rev_looked.specs.Needs.{is_left, scene}
use Rattle.rev_looked.proofs.left.note_kept_after.Given as goal

-- the kept events so far
abbrev pub invariant-loop-place : goal.invariant-loop-place
invariant-loop-place l =
    (path : ℕ) → path < length l.initial.notes → get_or l.initial.notes path None ≡ None → get_or l.notes path None
    ≡ find (λ k. nat_lt l.after k && is_left (scene l.history.timeline l.observation.paths l.observation.commands l.edges) path k)
    (take l.place l.history.timeline.kept)
