-- The answer: what is told, each once, in the order of the numbers of the user, the path and the command.
use Rattle.std.specs.Prelude.{◌≡◌, ◌↔◌, ℕ, false, List, [], ◌∷◌, map, length, unwrap_or}
use Rattle.std.specs.List.{Contains, range_with_len}
use Rattle.std.specs.List.Sorted.{IsStrictlySortedBy}
use Rattle.std.specs.Ordering.{nat_cmp}
use Rattle.std.specs.Cmp.Lexicographic.{slice_cmp}
use Rattle.rev_manifest.specs.Manifest.{BuildValue}
use Rattle.rev_history.specs.Timeline.{Timeline, kept_events}
use Rattle.rev_races.specs.Races.{lists as list_of}
use Rattle.rev_conflicts.specs.declared.conflict.Conflict.{Conflict}
use Rattle.rev_conflicts.specs.Conflicts.{Scene}
use Rattle.rev_undeclared.specs.declared.kind.Undeclared.{Undeclared}
use Rattle.rev_undeclared.specs.Stronger.{is_told}
use Rattle.rev_unlisted.specs.declared.input.Cover.{Cover}
use Rattle.rev_unlisted.specs.declared.input.Cover.TheVariants.{Covered, HeldBack, Neither}
use Rattle.rev_unlisted.specs.declared.input.Unlisted.{Unlisted}
use Rattle.rev_unlisted.specs.Unlisted.{IsCover, IsUnlisted}

-- what each edge lists in a history, nothing where it has no list
abbrev pub lists_in : Timeline → List (List (List ℕ))
lists_in t =
    map (λ edge. unwrap_or (list_of t.manifest t.opening (kept_events t) edge) [])
    (range_with_len 0 (length t.manifest.builds))

-- something stronger is told of the user and the file: a conflict, or that the file is undeclared or another's
pub record IsToldOf (undeclared : List Undeclared) (user path : ℕ) : Type 0 where
  pub told : Undeclared
  pub among : Contains undeclared told
  pub user_is : told.user ≡ user
  pub path_is : told.path ≡ path

-- what is to be told: the file is unlisted, with its cover, and nothing stronger is told of that user and that file
pub record IsToTell
    (s : Scene) (sides : List BuildValue) (lists : List (List (List ℕ))) (conflicts : List Conflict)
    (undeclared : List Undeclared) (u : Unlisted)
    : Type 0 where
  pub is : IsUnlisted s sides lists u.user u.path u.used_by
  pub cover_is : IsCover s lists u.user u.path u.cover
  pub alone : is_told conflicts u.user u.path ≡ false
  pub declared : IsToldOf undeclared u.user u.path → ⊥

abbrev pub cover_number : Cover → ℕ
cover_number Covered = 0
cover_number HeldBack = 1
cover_number Neither = 2

abbrev pub unlisted_key : Unlisted → List ℕ
unlisted_key u = u.user ∷ u.path ∷ u.used_by ∷ cover_number u.cover ∷ []

-- exactly what is to be told, each once, in the order of these numbers
pub record AreUnlisted
    (s : Scene) (sides : List BuildValue) (lists : List (List (List ℕ))) (conflicts : List Conflict)
    (undeclared : List Undeclared) (unlisted : List Unlisted)
    : Type 0 where
  pub exact : (u : Unlisted) → Contains unlisted u ↔ IsToTell s sides lists conflicts undeclared u
  pub rising : IsStrictlySortedBy (slice_cmp nat_cmp) (map unlisted_key unlisted)
