-- Which files lie in a folder, by their canonical paths: absolute, with no link, `.` or `..` in them.
use Rattle.std.specs.Prelude.{ℕ, ◌==◌, Bool, List, [], ◌∷◌, ◌++◌, if◌then◌else◌}
use Rattle.std.specs.List.{starts_with, ends_with}

-- a folder's path with a slash at its end, which the root has already
abbrev pub folder_text : List ℕ → List ℕ
folder_text path = if ends_with (λ a b. a == b) path (47 ∷ []) then path else path ++ 47 ∷ []

-- a path begins with a folder's text
abbrev pub is_below : List ℕ → List ℕ → Bool
is_below folder path = starts_with (λ a b. a == b) path folder
