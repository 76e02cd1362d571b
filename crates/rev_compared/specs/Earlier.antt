-- Which edges had been made before a recording began.
use Rattle.std.specs.Prelude.{ℕ, Bool, true, false, not, ◌==◌, ◌||◌, List, length, map, Option, None, Some, if◌then◌else◌}
use Rattle.std.specs.List.{range_with_len}
use Rattle.rev_cells.specs.State.{State, mark_of, stamp_of}
use Rattle.rev_events.specs.Refusal.{is_settled}
use Rattle.rev_history.specs.Timeline.{Timeline, state_at}
use Rattle.rev_shown.specs.Cells.{first_output}
use Rattle.rev_compared.specs.declared.lasts.Last.{Last}
use Rattle.rev_compared.specs.Alone.{last_at}

abbrev pub has_run : Option Last → Bool
has_run None = false
has_run (Some last) = true

-- there is an output, and its file is there
abbrev pub is_there : State → Option (List ℕ) → Bool
is_there s None = false
is_there s (Some output) = not (stamp_of s output == 0)

-- AN EDGE HAD BEEN MADE before the recording began: no run of it is kept, and after the kept events nothing is to be
-- done for it, and its first output is there
abbrev pub is_made_earlier : Timeline → List (Option Last) → ℕ → Bool
is_made_earlier t lasts edge =
    if has_run (last_at lasts edge) || not (is_settled (mark_of (state_at t) edge)) then false
    else is_there (state_at t) (first_output t.manifest.builds edge)

abbrev pub made_earlier_of : Timeline → List (Option Last) → List Bool
made_earlier_of t lasts = map (is_made_earlier t lasts) (range_with_len 0 (length t.manifest.builds))
