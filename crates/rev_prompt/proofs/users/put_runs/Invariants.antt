use Rattle.std.proofs.Common.{◌≡◌, ℕ, ◌<◌, None, get_or, length, take}
use Rattle.rev_prompt.specs.Spans.{last_in}
use Rattle.rev_prompt.proofs.users.put_runs.Given as goal

-- those of the runs so far
abbrev pub invariant-loop-run : goal.invariant-loop-run
invariant-loop-run l =
    (edge : ℕ) → edge < length l.initial.spans → get_or l.initial.spans edge None ≡ None
    → get_or l.spans edge None ≡ last_in edge (take l.run-index l.runs)
