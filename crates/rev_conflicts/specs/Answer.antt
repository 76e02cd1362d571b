-- The answer: what is told, each once, in the order of the numbers of the maker, of the user, and of the place.
use Rattle.std.specs.Prelude.{◌≡◌, ℕ, ◌↔◌, List, [], ◌∷◌, ◌++◌, map, Some}
use Rattle.std.specs.List.{Contains}
use Rattle.std.specs.List.Sorted.{IsStrictlySortedBy}
use Rattle.std.specs.Ordering.{nat_cmp}
use Rattle.std.specs.Cmp.Lexicographic.{slice_cmp}
use Rattle.rev_conflicts.specs.declared.conflict.Conflict.{Conflict}
use Rattle.rev_conflicts.specs.declared.place.Place.{Place}
use Rattle.rev_conflicts.specs.declared.place.Place.TheVariants.{File, Entries}
use Rattle.rev_conflicts.specs.Conflicts.{Meet, Scene, kind_at}

-- what is to be told: two commands meet at a place, and there is a kind of it
pub record IsConflict (s : Scene) (c : Conflict) : Type 0 where
  pub meet : Meet s c.maker c.user c.place c.made_by c.used_by
  pub kind_is : kind_at s c.maker c.user meet.made meet.used c.place ≡ Some c.kind

-- files stand before the entries of folders, each by their numbers
abbrev pub place_key : Place → List ℕ
place_key (File path) = 0 ∷ path ∷ []
place_key (Entries folder) = 1 ∷ folder ∷ []

abbrev pub conflict_key : Conflict → List ℕ
conflict_key c = c.maker ∷ c.user ∷ (place_key c.place ++ c.made_by ∷ c.used_by ∷ [])

-- exactly what is to be told, each once, in the order of these numbers
pub record AreConflicts (s : Scene) (conflicts : List Conflict) : Type 0 where
  pub exact : (c : Conflict) → Contains conflicts c ↔ IsConflict s c
  pub rising : IsStrictlySortedBy (slice_cmp nat_cmp) (map conflict_key conflicts)
