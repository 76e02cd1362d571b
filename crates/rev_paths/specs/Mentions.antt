-- Lists of paths in which each path counts once.
use Rattle.std.specs.Prelude.{◌≡◌, ℕ, not, List, [], ◌∷◌, filter, bytes_eq}
use Rattle.std.specs.List.{list_any, IsDistinct}

-- each path of a list once, where it stands first
abbrev pub first_mentions : List (List ℕ) → List (List ℕ)
first_mentions [] = []
first_mentions (p ∷ ps) = p ∷ filter (λ q. not (bytes_eq q p)) (first_mentions ps)

-- no path stands twice among first mentions
abbrev pub FirstMentionsAreDistinct : Type 0
FirstMentionsAreDistinct = (paths : List (List ℕ)) → IsDistinct bytes_eq (first_mentions paths)

-- a path is among the first mentions of a list exactly where it is in the list
abbrev pub FirstMentionsAreAll : Type 0
FirstMentionsAreAll =
    (paths : List (List ℕ)) (path : List ℕ)
    → list_any (bytes_eq path) (first_mentions paths) ≡ list_any (bytes_eq path) paths
