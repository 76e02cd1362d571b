-- Schedules: in which order the commands of a build do their steps.
use Rattle.std.specs.Prelude.{◌≡◌, ◌≢◌, ◌⊎◌, ℕ, ◌==◌, Bool, true, false, not, ◌&&◌, ◌||◌, List, [], ◌∷◌, ◌++◌, Option, Some, None, if◌then◌else◌}
use Rattle.std.specs.List.{list_any}
use Rattle.rev_world.specs.Commands.{Act, Act.Ask, Act.Leave, Act.Ensure, Act.End, Command, Disk, Look.Entry, Place, Seen.Holds, Step, Step.Saw, Step.Left, Step.Ensured, Value, Value.Folder, is_blocked, is_end, is_ensured, is_left, is_look, is_pass, place_eq, see}

-- the disk, and what each edge's command did so far
pub record World : Type 0 where
  pub disk : Disk
  pub steps : ℕ → List Step

-- no command has begun
abbrev pub opening : Disk → World
opening disk = record { disk = disk; steps = λ edge. [] }

-- ONE STEP
-- the step by which a command ensures a folder, by what stands there
abbrev pub ensure_at : Place → Value → Step
ensure_at place value = if is_blocked value then Saw (Entry place) (Holds value) else Ensured place

abbrev pub step_of : Disk → Act → Option Step
step_of disk (Ask look) = Some (Saw look (see disk look))
step_of disk (Leave place value) = Some (Left place value)
step_of disk (Ensure place) = Some (ensure_at place (disk place))
step_of disk (End status) = None

abbrev pub with_change : Disk → Step → Disk
with_change disk (Saw look seen) = disk
with_change disk (Left left value) = λ place. if place_eq left place then value else disk place
with_change disk (Ensured ensured) = λ place. if place_eq ensured place then Folder else disk place

abbrev pub with_step : (ℕ → List Step) → ℕ → Step → ℕ → List Step
with_step steps edge step = λ other. if other == edge then step ∷ steps other else steps other

abbrev pub after_step : World → ℕ → Option Step → World
after_step world edge None = world
after_step world edge (Some step) =
    record { disk = with_change world.disk step; steps = with_step world.steps edge step }

-- the edge's command does its next step; one that has ended does nothing
abbrev pub after : (ℕ → Command) → World → ℕ → World
after commands world edge = after_step world edge (step_of world.disk (commands edge (world.steps edge)))

abbrev pub HasEnded : (ℕ → Command) → World → ℕ → Type 0
HasEnded commands world edge = is_end (commands edge (world.steps edge)) ≡ true

-- SCHEDULES
-- A schedule says step by step which edge's command is next, so that commands can overlap.
abbrev pub run : (ℕ → Command) → World → List ℕ → World
run commands world [] = world
run commands world (edge ∷ edges) = run commands (after commands world edge) edges

-- It is legal where a command does a step only when each command has ended that its edge waits for.
abbrev pub IsLegal : (ℕ → ℕ → Type 0) → (ℕ → Command) → World → List ℕ → Type 0
IsLegal Waits commands world [] = Unit {0}
IsLegal Waits commands world (edge ∷ edges) =
    ((other : ℕ) → Waits edge other → HasEnded commands world other)
    × IsLegal Waits commands (after commands world edge) edges

-- at its end each command has ended
abbrev pub IsComplete : (ℕ → Command) → World → Type 0
IsComplete commands world = (edge : ℕ) → HasEnded commands world edge

-- WITHOUT A CONFLICT
abbrev pub leaves : Place → List Step → Bool
leaves place = list_any (is_left place)

abbrev pub ensures_at : Place → List Step → Bool
ensures_at place = list_any (is_ensured place)

-- The steps ask for the place: they look at it before the command ensured it itself. A later look shows the command
-- nothing that another command could change by ensuring the same folder.
abbrev pub asks : Place → List Step → Bool
asks place [] = false
asks place (step ∷ steps) = (is_look place step && not (ensures_at place steps)) || asks place steps

-- the steps pass the place on the way to one below
abbrev pub passes : Place → List Step → Bool
passes place = list_any (is_pass place)

abbrev pub uses : Place → List Step → Bool
uses place steps = leaves place steps || (ensures_at place steps || (asks place steps || passes place steps))

-- It is determined that an edge finds a folder at a place. One for which it waits ensures the folder. And of those that
-- leave the place, this one waits for each for which the edge waits.
pub record IsDetermined (Waits : ℕ → ℕ → Type 0) (steps : ℕ → List Step) (place : Place) (edge : ℕ) : Type 0 where
  pub maker : ℕ
  pub before : Waits edge maker
  pub ensured : ensures_at place (steps maker) ≡ true
  pub later : (leaver : ℕ) → leaves place (steps leaver) ≡ true → Waits edge leaver → Waits maker leaver

-- At a place no two edges conflict. Where one leaves it, and the other leaves, ensures, asks for or passes it, one waits
-- for the other. An edge that asks for it is ordered with each other one that ensures it, unless it is determined that it
-- finds a folder there. Two edges that ensure the place need no order. Nor do one that ensures it and one that passes it.
pub record NoneConflictAtBy (uses asks : Place → List Step → Bool) (Waits : ℕ → ℕ → Type 0) (steps : ℕ → List Step) (place : Place) : Type 0 where
  pub at_left : (a b : ℕ) → a ≢ b → leaves place (steps a) ≡ true → uses place (steps b) ≡ true → Waits a b ⊎ Waits b a
  pub at_asked : (b : ℕ) → asks place (steps b) ≡ true → IsDetermined Waits steps place b
      ⊎ ((a : ℕ) → a ≢ b → ensures_at place (steps a) ≡ true → Waits a b ⊎ Waits b a)

abbrev pub NoneConflictBy : (Place → List Step → Bool) → (Place → List Step → Bool) → (ℕ → ℕ → Type 0) → (ℕ → List Step) → Type 0
NoneConflictBy uses asks Waits steps = (place : Place) → NoneConflictAtBy uses asks Waits steps place

abbrev pub NoneConflictAt : (ℕ → ℕ → Type 0) → (ℕ → List Step) → Place → Type 0
NoneConflictAt = NoneConflictAtBy uses asks

abbrev pub NoneConflict : (ℕ → ℕ → Type 0) → (ℕ → List Step) → Type 0
NoneConflict = NoneConflictBy uses asks

-- ONE OUTCOME
-- Another world, whole or on its way, has the outcome of this one. Each command did its first steps there, or all of them,
-- as here: the same looks, which showed the same, and the same changes. A command that has ended there did all of its
-- steps, and has the same status. Where all commands have ended, the disk has the same at each place.
pub record HasSameOutcome (commands : ℕ → Command) (world other : World) : Type 0 where
  pub as_here : (edge : ℕ) → (later : List Step) × (world.steps edge ≡ later ++ other.steps edge)
  pub all_steps : (edge : ℕ) → HasEnded commands other edge → other.steps edge ≡ world.steps edge
  pub same_status : (edge : ℕ) → HasEnded commands other edge
      → commands edge (other.steps edge) ≡ commands edge (world.steps edge)
  pub same_disk : IsComplete commands other → (place : Place) → other.disk place ≡ world.disk place
