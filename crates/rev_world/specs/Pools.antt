-- Pools of depth 1: no two commands of such a pool overlap, but none of them waits for another one.
use Rattle.std.specs.Prelude.{◌≡◌, ◌≢◌, ◌⊎◌, ℕ, Bool, true, false, List, [], ◌∷◌, Option, Some, None, if◌then◌else◌}
use Rattle.rev_world.specs.Commands.{Command, Disk, Place, Step, Step.Saw, Step.Left, Step.Ensured, Value, Value.Folder, Value.Nothing, place_eq}
use Rattle.rev_world.specs.Schedules.{HasEnded, NoneConflictAt, World, after, ensures_at, leaves, uses}
use Rattle.rev_world.specs.Laws.{By, GoesThrough, OneOutcomeFrom}

-- An edge can do a step: each command has ended that it waits for, and each other one of its pool has not begun or has
-- ended.
pub record IsReady (Waits Excludes : ℕ → ℕ → Type 0) (commands : ℕ → Command) (world : World) (edge : ℕ) : Type 0 where
  pub waited : (other : ℕ) → Waits edge other → HasEnded commands world other
  pub alone : (other : ℕ) → other ≢ edge → Excludes edge other → (world.steps other ≡ []) ⊎ HasEnded commands world other

abbrev pub IsLegalInPools : (ℕ → ℕ → Type 0) → (ℕ → ℕ → Type 0) → (ℕ → Command) → World → List ℕ → Type 0
IsLegalInPools Waits Excludes commands world [] = Unit {0}
IsLegalInPools Waits Excludes commands world (edge ∷ edges) =
    IsReady Waits Excludes commands world edge
    × IsLegalInPools Waits Excludes commands (after commands world edge) edges

-- TEMPORARIES
-- the last change of a place
abbrev pub last_change : Place → List Step → Option Value
last_change place [] = None
last_change place (Saw look seen ∷ steps) = last_change place steps
last_change place (Left left value ∷ steps) = if place_eq left place then Some value else last_change place steps
last_change place (Ensured ensured ∷ steps) = if place_eq ensured place then Some Folder else last_change place steps

-- A temporary of a pool. Nothing stood there at the opening. Of those that leave something there no two run at once, and
-- each leaves nothing there at last. Nobody else looks at it or passes it, and nobody ensures it.
pub record IsTemporary (Excludes : ℕ → ℕ → Type 0) (disk : Disk) (steps : ℕ → List Step) (place : Place) : Type 0 where
  pub bare : disk place ≡ Nothing
  pub inside : (edge : ℕ) → uses place (steps edge) ≡ true → leaves place (steps edge) ≡ true
  pub none_ensure : (edge : ℕ) → ensures_at place (steps edge) ≡ false
  pub gone : (edge : ℕ) → leaves place (steps edge) ≡ true → last_change place (steps edge) ≡ Some Nothing
  pub pooled : (a b : ℕ) → a ≢ b → leaves place (steps a) ≡ true → leaves place (steps b) ≡ true → Excludes a b

-- at each place no two unordered edges conflict, or it is a temporary of a pool
abbrev pub NoneConflictInPools : (ℕ → ℕ → Type 0) → (ℕ → ℕ → Type 0) → Disk → (ℕ → List Step) → Type 0
NoneConflictInPools Waits Excludes disk steps =
    (place : Place) → NoneConflictAt Waits steps place ⊎ IsTemporary Excludes disk steps place

-- THE LAW
abbrev pub OneOutcomeInPools : Type 0
OneOutcomeInPools =
    (waits excludes : ℕ → ℕ → Bool) → GoesThrough waits
    → OneOutcomeFrom (IsLegalInPools (By waits) (By excludes)) (NoneConflictInPools (By waits) (By excludes))

-- WHY NO TWO OF A POOL MAY OVERLAP
-- any two are taken to exclude each other, though schedules know nothing of it
abbrev pub Any : ℕ → ℕ → Type 0
Any a b = Unit {0}

abbrev pub PoolsCount : Type 0
PoolsCount =
    ((waits excludes : ℕ → ℕ → Bool) → GoesThrough waits
    → OneOutcomeFrom (IsLegalInPools (By waits) (By excludes)) (NoneConflictInPools (By waits) Any)) → ⊥
