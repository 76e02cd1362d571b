-- What counts for edges, with the names of one file joined. `names` has other names of files, each with the own name of
-- its file.
use Rattle.std.specs.Prelude.{ℕ, ◌==◌, List, [], ◌++◌, map, length, slice_index_or, if◌then◌else◌}
use Rattle.std.specs.List.{range_with_len}
use Rattle.rev_manifest.specs.Manifest.{BuildValue}
use Rattle.rev_places.specs.Names.{own_names_in}
use Rattle.rev_unlisted.specs.Follows.{counted_of}

-- what an edge lists, and behind it the own names of the files that count for the edge by another name
abbrev pub joined_of : List BuildValue → List (List (List ℕ)) → List (List ℕ × List ℕ) → ℕ → List (List ℕ)
joined_of builds lists names edge =
    slice_index_or lists edge [] ++ own_names_in names (counted_of builds lists edge)

abbrev pub joined_in : List BuildValue → List (List (List ℕ)) → List (List ℕ × List ℕ) → List (List (List ℕ))
joined_in builds lists names = map (joined_of builds lists names) (range_with_len 0 (length builds))

-- AS IT IS FOUND
-- a list with more names behind it, and nothing where there are none
abbrev pub extended_of : List (List ℕ) → List (List ℕ) → List (List ℕ)
extended_of list more = if length more == 0 then [] else list ++ more

abbrev pub extended_at : List BuildValue → List (List (List ℕ)) → List (List ℕ × List ℕ) → ℕ → List (List ℕ)
extended_at builds lists names edge =
    extended_of (slice_index_or lists edge []) (own_names_in names (counted_of builds lists edge))

abbrev pub extended_in : List BuildValue → List (List (List ℕ)) → List (List ℕ × List ℕ) → List (List (List ℕ))
extended_in builds lists names = map (extended_at builds lists names) (range_with_len 0 (length builds))

-- a list, or what it was extended to
abbrev pub chosen_of : List (List ℕ) → List (List ℕ) → List (List ℕ)
chosen_of list extended = if length extended == 0 then list else extended

abbrev pub chosen_at : List (List (List ℕ)) → List (List (List ℕ)) → ℕ → List (List ℕ)
chosen_at lists extended edge = chosen_of (slice_index_or lists edge []) (slice_index_or extended edge [])
