-- How a path stands in a command, so that the shell reads it as one word.
use Rattle.std.specs.Prelude.{ℕ, Bool, ◌||◌, ◌==◌, List, [], ◌∷◌, ◌++◌, if◌then◌else◌}
use Rattle.std.specs.List.{list_all, flat_map}
use Rattle.std.specs.Char.{is_ascii_alphanumeric}

-- a letter, a digit, or one of `_ + - . /`, which the shell reads as itself
abbrev pub is_safe : ℕ → Bool
is_safe b = is_ascii_alphanumeric b || b == 95 || b == 43 || b == 45 || b == 46 || b == 47

-- a byte between single quotes: a quote closes them, stands behind a backslash, and opens them again
abbrev pub escaped : ℕ → List ℕ
escaped b = if b == 39 then 39 ∷ 92 ∷ 39 ∷ 39 ∷ [] else b ∷ []

-- a path wholly of safe bytes stands as it is, and another between single quotes
abbrev pub quote : List ℕ → List ℕ
quote path = if list_all is_safe path then path else 39 ∷ flat_map escaped path ++ 39 ∷ []
