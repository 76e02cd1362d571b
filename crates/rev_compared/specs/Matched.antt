-- Which event of another history is the one of a number here.
use Rattle.std.specs.Prelude.{ℕ, ◌+◌, ◌==◌, List, map, Option, None, Some, option_and_then, if◌then◌else◌}
use Rattle.std.specs.List.{range_with_len}
use Rattle.rev_history.specs.Timeline.{Timeline, event_at, last_of}
use Rattle.rev_runs.specs.Edges.{edge_of_event, is_edge}
use Rattle.rev_compared.specs.Alone.{last_at, twin_last}
use Rattle.rev_compared.specs.declared.lasts.Last.{Last}

-- the start of one run is the start of the other, and the end of one the end of the other
abbrev pub match_between : ℕ → Last → Last → Option ℕ
match_between number a b =
    if a.began == number then Some b.began else if is_edge number a.ended then b.ended else None

abbrev pub match_in : List (Option Last) → List (Option ℕ) → List (Option Last) → ℕ → ℕ → Option ℕ
match_in lasts twins others number edge =
    option_and_then (λ a. option_and_then (match_between number a) (twin_last twins others edge)) (last_at lasts edge)

-- the edge of the event of a number
abbrev pub edge_at : Timeline → ℕ → Option ℕ
edge_at t number = option_and_then (edge_of_event t.manifest.builds) (event_at t number)

-- THE SAME EVENT THERE: by the edge of the event here, its last run, and that of its twin
abbrev pub match_of : Timeline → List (Option Last) → List (Option ℕ) → List (Option Last) → ℕ → Option ℕ
match_of t lasts twins others number = option_and_then (match_in lasts twins others number) (edge_at t number)

-- the same events there of all numbers, from 0
abbrev pub matched_of : Timeline → List (Option Last) → List (Option ℕ) → List (Option Last) → List (Option ℕ)
matched_of t lasts twins others = map (match_of t lasts twins others) (range_with_len 0 (last_of t.accepted + 1))
