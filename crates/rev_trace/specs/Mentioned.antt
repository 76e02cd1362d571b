-- Which paths a list mentions. Beside each path stands the number of the list that mentioned it last.
use Rattle.std.specs.Prelude.{◌≡◌, ℕ, Bool, true, false, List, Some, bytes_eq}
use Rattle.std.specs.List.{list_any, IsDistinct}
use Rattle.std.specs.Map.{lookup}

abbrev pub LastLists : Type 0
LastLists = List (List ℕ × ℕ)

-- the list of this number was the last to mention the path
abbrev pub IsIn : LastLists → ℕ → List ℕ → Type 0
IsIn lists list path = lookup (bytes_eq path) lists ≡ Some list

-- a list mentions a path, once more or not, and what it mentioned before stays mentioned
pub record IsMentioned (old new : LastLists) (list : ℕ) (path : List ℕ) (again : Bool) : Type 0 where
  pub there : IsIn new list path
  pub others : (other : List ℕ) → IsIn old list other → IsIn new list other
  pub first : again ≡ false → IsIn old list path → ⊥

-- a list mentions these paths; where it mentions none of them once more, each stands there once
pub record AreMentioned (lists : LastLists) (list : ℕ) (paths : List (List ℕ)) (repeats : Bool) : Type 0 where
  pub there : (path : List ℕ) → list_any (bytes_eq path) paths ≡ true → IsIn lists list path
  pub once : repeats ≡ false → IsDistinct bytes_eq paths
