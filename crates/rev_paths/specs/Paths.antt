-- Names by number: a list in which no name stands twice.
use Rattle.std.specs.Prelude.{ℕ, List, [], ◌∷◌, ◌++◌, Option, bytes_eq, position, if◌then◌else◌}
use Rattle.std.specs.List.{list_any}

-- the place of a name in a list, from 0, if it has one
abbrev pub place_of : List ℕ → List (List ℕ) → Option ℕ
place_of name names = position (bytes_eq name) names

-- a name that is not in the list yet goes last
abbrev pub with_name : List ℕ → List (List ℕ) → List (List ℕ)
with_name name names = if list_any (bytes_eq name) names then names else names ++ name ∷ []
