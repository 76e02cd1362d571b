-- Patterns, and the paths that they hide.
use Rattle.std.specs.Prelude.{ℕ, ◌==◌, Bool, true, false, ◌&&◌, ◌||◌, if◌then◌else◌, List, [], ◌∷◌}
use Rattle.std.specs.List.{list_any, slice_split}
use Rattle.rev_fields.specs.Lines.{is_blank}

-- this byte comes first, and what follows it passes
abbrev pub after : ℕ → (List ℕ → Bool) → List ℕ → Bool
after byte rest [] = false
after byte rest (b ∷ bs) = (b == byte) && rest bs

-- all of the bytes pass, or what is left of them behind some of the first ones
abbrev pub some_end : (List ℕ → Bool) → List ℕ → Bool
some_end rest [] = rest []
some_end rest (b ∷ bs) = rest (b ∷ bs) || some_end rest bs

-- WHAT A PART MATCHES
-- `*` stands for any bytes, and every other byte for itself
abbrev pub matches : List ℕ → List ℕ → Bool
matches [] bytes = is_blank bytes
matches (b ∷ rest) bytes = if b == 42 then some_end (matches rest) bytes else after b (matches rest) bytes

-- WHAT A PATTERN HIDES
-- the parts of a pattern, or the components of a path, between its slashes
abbrev pub parts_of : List ℕ → List (List ℕ)
parts_of text = slice_split (λ b. b == 47) text

-- the parts match the first components, one by one
abbrev pub begins : List (List ℕ) → List (List ℕ) → Bool
begins [] components = true
begins (part ∷ parts) [] = false
begins (part ∷ parts) (c ∷ cs) = matches part c && begins parts cs

-- A pattern of one part hides a path one of whose components it matches. One with a slash hides a path whose first
-- components its parts match, and so all that is below what it matches.
abbrev pub hides_by : List (List ℕ) → List (List ℕ) → Bool
hides_by [] components = false
hides_by (part ∷ []) components = list_any (matches part) components
hides_by (part ∷ next ∷ parts) components = begins (part ∷ next ∷ parts) components

abbrev pub hides : List ℕ → List ℕ → Bool
hides pattern path = hides_by (parts_of pattern) (parts_of path)

-- one of the patterns hides the path
abbrev pub is_hidden : List (List ℕ) → List ℕ → Bool
is_hidden patterns path = list_any (λ pattern. hides pattern path) patterns
