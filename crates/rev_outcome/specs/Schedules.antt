-- Schedules: in which order the commands of a build do their steps.
use Rattle.std.specs.Prelude.{◌≡◌, ◌≢◌, ◌⊎◌, ℕ, ◌==◌, Bool, true, List, [], ◌∷◌, ◌++◌, Option, Some, None, bytes_eq, if◌then◌else◌}
use Rattle.std.specs.List.{list_any}
use Rattle.rev_outcome.specs.Commands.{Act, Act.Ask, Act.Leave, Act.End, Command, Disk, Step, Step.Saw, Step.Left, see, is_end, is_left, is_used}

-- the disk, and what each edge's command did so far
pub record World : Type 0 where
  pub disk : Disk
  pub steps : ℕ → List Step

-- no command has begun
abbrev pub opening : Disk → World
opening disk = record { disk = disk; steps = λ edge. [] }

-- ONE STEP
abbrev pub step_of : Disk → Act → Option Step
step_of disk (Ask look) = Some (Saw look (see disk look))
step_of disk (Leave path content) = Some (Left path content)
step_of disk (End status) = None

abbrev pub with_left : Disk → Step → Disk
with_left disk (Saw look seen) = disk
with_left disk (Left left content) = λ path. if bytes_eq left path then content else disk path

abbrev pub with_step : (ℕ → List Step) → ℕ → Step → ℕ → List Step
with_step steps edge step = λ other. if other == edge then step ∷ steps other else steps other

abbrev pub after_step : World → ℕ → Option Step → World
after_step world edge None = world
after_step world edge (Some step) =
    record { disk = with_left world.disk step; steps = with_step world.steps edge step }

-- the edge's command does its next step; one that has ended does nothing
abbrev pub after : (ℕ → Command) → World → ℕ → World
after commands world edge = after_step world edge (step_of world.disk (commands edge (world.steps edge)))

abbrev pub HasEnded : (ℕ → Command) → World → ℕ → Type 0
HasEnded commands world edge = is_end (commands edge (world.steps edge)) ≡ true

-- SCHEDULES
-- A schedule says step by step which edge's command is next, so that commands can overlap.
abbrev pub run : (ℕ → Command) → World → List ℕ → World
run commands world [] = world
run commands world (edge ∷ edges) = run commands (after commands world edge) edges

-- It is legal where a command does a step only when each command has ended that its edge waits for.
abbrev pub IsLegal : (ℕ → ℕ → Type 0) → (ℕ → Command) → World → List ℕ → Type 0
IsLegal Waits commands world [] = Unit {0}
IsLegal Waits commands world (edge ∷ edges) =
    ((other : ℕ) → Waits edge other → HasEnded commands world other)
    × IsLegal Waits commands (after commands world edge) edges

-- at its end each command has ended
abbrev pub IsComplete : (ℕ → Command) → World → Type 0
IsComplete commands world = (edge : ℕ) → HasEnded commands world edge

-- WITHOUT A CONFLICT
abbrev pub leaves : List ℕ → List Step → Bool
leaves path = list_any (is_left path)

abbrev pub uses : List ℕ → List Step → Bool
uses path = list_any (is_used path)

-- Of two edges, where one leaves a path that the other looks at or leaves, one waits for the other.
abbrev pub NoneConflict : (ℕ → ℕ → Type 0) → (ℕ → List Step) → Type 0
NoneConflict Waits steps =
    (a b : ℕ) (path : List ℕ) → a ≢ b → leaves path (steps a) ≡ true → uses path (steps b) ≡ true
    → Waits a b ⊎ Waits b a

-- ONE OUTCOME
-- Another world, whole or on its way, has the outcome of this one. Each command did its first steps there, or all, as it
-- did them here: it looked at the same, saw the same, and left the same. Which has ended there did all of its steps, and
-- ended with the same status. Where all have, the disk holds the same.
pub record HasSameOutcome (commands : ℕ → Command) (world other : World) : Type 0 where
  pub as_here : (edge : ℕ) → (later : List Step) × (world.steps edge ≡ later ++ other.steps edge)
  pub all_steps : (edge : ℕ) → HasEnded commands other edge → other.steps edge ≡ world.steps edge
  pub same_status : (edge : ℕ) → HasEnded commands other edge
      → commands edge (other.steps edge) ≡ commands edge (world.steps edge)
  pub same_disk : IsComplete commands other → (path : List ℕ) → other.disk path ≡ world.disk path
