-- Which commands ran in one build alone, and which had ended in one alone before another began.
use Rattle.std.specs.Prelude.{ℕ, nat_lt, Bool, true, false, not, ◌&&◌, List, filter, Option, None, Some, option_and_then, slice_index_or}
use Rattle.std.specs.List.{range_with_len}
use Rattle.rev_compared.specs.declared.lasts.Ending.{Ending}
use Rattle.rev_compared.specs.declared.lasts.Ending.TheVariants.{Well}
use Rattle.rev_compared.specs.declared.lasts.Last.{Last}

abbrev pub last_at : List (Option Last) → ℕ → Option Last
last_at lasts edge = slice_index_or lasts edge None

-- the last run of an edge's twin
abbrev pub twin_last : List (Option ℕ) → List (Option Last) → ℕ → Option Last
twin_last twins others edge = option_and_then (last_at others) (slice_index_or twins edge None)

abbrev pub is_alone : Option Last → Option Last → Bool
is_alone None other = false
is_alone (Some last) None = true
is_alone (Some last) (Some other) = false

-- THE EDGES THAT RAN HERE ALONE: each has a last run, and has no twin, or one without a run
abbrev pub ran_alone_of : ℕ → List (Option Last) → List (Option ℕ) → List (Option Last) → List ℕ
ran_alone_of edges lasts twins others =
    filter (λ edge. is_alone (last_at lasts edge) (twin_last twins others edge)) (range_with_len 0 edges)

abbrev pub well_before : Ending → Option ℕ → ℕ → Bool
well_before Well (Some ended) number = nat_lt ended number
well_before _ _ number = false

-- an edge is made before the event of a number: its last run ended well before it; without a run, it had been made
-- before the recording began
abbrev pub is_made : Option Last → Bool → ℕ → Bool
is_made None earlier number = earlier
is_made (Some last) earlier number = well_before last.ending last.ended number

abbrev pub is_made_at : List (Option Last) → List Bool → ℕ → ℕ → Bool
is_made_at lasts earlier number edge = is_made (last_at lasts edge) (slice_index_or earlier edge false) number

-- the same of an edge that may not be there
abbrev pub is_made_by : List (Option Last) → List Bool → ℕ → Option ℕ → Bool
is_made_by lasts earlier number None = false
is_made_by lasts earlier number (Some edge) = is_made_at lasts earlier number edge

abbrev pub is_finished_alone : List (Option Last) → List Bool → ℕ → List (Option ℕ) → List (Option Last) → List Bool → ℕ → ℕ → Bool
is_finished_alone lasts earlier began twins others others_earlier other_began edge =
    is_made_at lasts earlier began edge && not (is_made_by others others_earlier other_began (slice_index_or twins edge None))

-- THE MAKERS THAT HAD FINISHED HERE ALONE before a command began: each was made before it began here, and its twin was
-- not before it began there
abbrev pub finished_alone_of : ℕ → List (Option Last) → List Bool → ℕ → List (Option ℕ) → List (Option Last) → List Bool → ℕ → List ℕ
finished_alone_of edges lasts earlier began twins others others_earlier other_began =
    filter (is_finished_alone lasts earlier began twins others others_earlier other_began) (range_with_len 0 edges)
