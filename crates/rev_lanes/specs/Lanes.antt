-- Lanes: rows of stretches of time that stand one behind the other.
use Rattle.std.specs.Prelude.{◌≡◌, ℕ, ◌<◌, ◌≤◌, List, Some, slice_get}
use Rattle.std.specs.List.{All}
use Rattle.rev_lanes.specs.declared.span.Span.{Span}

-- two spans of one lane do not overlap: the one that is listed first ends before the other one begins
abbrev pub AreApart : List Span → List ℕ → Type 0
AreApart spans lanes =
    (i j lane : ℕ) (one other : Span) → i < j → slice_get lanes i ≡ Some lane → slice_get lanes j ≡ Some lane
    → slice_get spans i ≡ Some one → slice_get spans j ≡ Some other → one.to ≤ other.from

-- each lane is one of so many
abbrev pub AreWithin : ℕ → List ℕ → Type 0
AreWithin count lanes = (i lane : ℕ) → slice_get lanes i ≡ Some lane → lane < count
