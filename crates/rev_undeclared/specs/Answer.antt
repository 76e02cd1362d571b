-- The answer: what is told, each once, in the order of the numbers of the maker, the user, the path and the commands.
use Rattle.std.specs.Prelude.{◌≡◌, ℕ, false, ◌↔◌, List, [], ◌∷◌, ◌++◌, map}
use Rattle.std.specs.List.{Contains}
use Rattle.std.specs.List.Sorted.{IsStrictlySortedBy}
use Rattle.std.specs.Ordering.{nat_cmp}
use Rattle.std.specs.Cmp.Lexicographic.{slice_cmp}
use Rattle.rev_manifest.specs.Manifest.{BuildValue}
use Rattle.rev_conflicts.specs.declared.conflict.Conflict.{Conflict}
use Rattle.rev_conflicts.specs.declared.conflict.Look.{Look}
use Rattle.rev_conflicts.specs.declared.conflict.Look.TheVariants as look
use Rattle.rev_conflicts.specs.Conflicts.{Scene}
use Rattle.rev_undeclared.specs.declared.kind.Undeclared.{Undeclared}
use Rattle.rev_undeclared.specs.declared.kind.UndeclaredKind.{UndeclaredKind}
use Rattle.rev_undeclared.specs.declared.kind.UndeclaredKind.TheVariants.{Anothers, LookedAt}
use Rattle.rev_undeclared.specs.Stronger.{is_told}
use Rattle.rev_undeclared.specs.Undeclared.{IsUndeclared}

-- what is to be told: it is undeclared or another's, and no conflict tells of that user and that file
pub record IsToTell (s : Scene) (sides : List BuildValue) (conflicts : List Conflict) (u : Undeclared) : Type 0 where
  pub is : IsUndeclared s sides u.maker u.user u.path u.made_by u.kind
  pub alone : is_told conflicts u.user u.path ≡ false

abbrev pub look_number : Look → ℕ
look_number look.Read = 0
look_number look.Miss = 1
look_number look.Stat = 2
look_number look.List = 3

-- another's stands before what a command looks at
abbrev pub kind_key : UndeclaredKind → List ℕ
kind_key Anothers = 0 ∷ 0 ∷ 0 ∷ []
kind_key (LookedAt look used_by) = 1 ∷ used_by ∷ look_number look ∷ []

abbrev pub undeclared_key : Undeclared → List ℕ
undeclared_key u = u.maker ∷ u.user ∷ u.path ∷ u.made_by ∷ kind_key u.kind

-- exactly what is to be told, each once, in the order of these numbers
pub record AreUndeclared
    (s : Scene) (sides : List BuildValue) (conflicts : List Conflict) (undeclared : List Undeclared)
    : Type 0 where
  pub exact : (u : Undeclared) → Contains undeclared u ↔ IsToTell s sides conflicts u
  pub rising : IsStrictlySortedBy (slice_cmp nat_cmp) (map undeclared_key undeclared)
