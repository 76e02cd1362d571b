-- One outcome by what an observation says that each command did.
use Rattle.std.specs.Prelude.{◌≡◌, ◌≢◌, ◌⊎◌, ◌↔◌, ℕ, Bool, true, false, ◌||◌, List}
use Rattle.rev_world.specs.Commands.{Command, Disk, Place, Step}
use Rattle.rev_world.specs.Schedules.{HasSameOutcome, IsComplete, IsLegal, asks, ensures_at, leaves, opening, passes, run}
use Rattle.rev_world.specs.Laws.{By, GoesThrough}

-- What an observation says that a command did at each place. It asked for it, or listed the folder that has it, before it
-- ensured it itself. It passed it on the way to one below. It left something or nothing there. It ensured a folder there.
pub record Told : Type 0 where
  pub asked : Place → Bool
  pub passed : Place → Bool
  pub left : Place → Bool
  pub ensured : Place → Bool

abbrev pub told_uses : Place → Told → Bool
told_uses place t = t.left place || (t.ensured place || (t.asked place || t.passed place))

-- The observation is of these steps. A look need be told only where another command leaves or ensures the place, and the
-- command itself does not leave it.
pub record TellsAll (told : ℕ → Told) (steps : ℕ → List Step) : Type 0 where
  pub left : (edge : ℕ) (place : Place) → leaves place (steps edge) ≡ true → (told edge).left place ≡ true
  pub ensured : (edge : ℕ) (place : Place) → ((told edge).ensured place ≡ true) ↔ (ensures_at place (steps edge) ≡ true)
  pub asked : (edge other : ℕ) (place : Place) → other ≢ edge
      → (leaves place (steps other) || ensures_at place (steps other)) ≡ true
      → leaves place (steps edge) ≡ false → asks place (steps edge) ≡ true → (told edge).asked place ≡ true
  pub passed : (edge other : ℕ) (place : Place) → other ≢ edge → leaves place (steps other) ≡ true
      → leaves place (steps edge) ≡ false → passes place (steps edge) ≡ true → (told edge).passed place ≡ true

-- It is told that an edge finds a folder at a place: one for which it waits was seen to ensure the folder, and waits for
-- each that was seen to leave the place, and for which the edge waits.
pub record IsToldDetermined (Waits : ℕ → ℕ → Type 0) (told : ℕ → Told) (place : Place) (edge : ℕ) : Type 0 where
  pub maker : ℕ
  pub before : Waits edge maker
  pub ensured : (told maker).ensured place ≡ true
  pub later : (leaver : ℕ) → (told leaver).left place ≡ true → Waits edge leaver → Waits maker leaver

-- By what is told no two unordered edges conflict.
pub record NoneTold (Waits : ℕ → ℕ → Type 0) (told : ℕ → Told) : Type 0 where
  pub at_left : (a b : ℕ) (place : Place) → a ≢ b → (told a).left place ≡ true → told_uses place (told b) ≡ true
      → Waits a b ⊎ Waits b a
  pub at_asked : (b : ℕ) (place : Place) → (told b).asked place ≡ true → IsToldDetermined Waits told place b
      ⊎ ((a : ℕ) → a ≢ b → (told a).ensured place ≡ true → Waits a b ⊎ Waits b a)

abbrev pub NothingToldOneOutcome : Type 0
NothingToldOneOutcome =
    (waits : ℕ → ℕ → Bool) → GoesThrough waits
    → (told : ℕ → Told) (commands : ℕ → Command) (disk : Disk) (schedule other : List ℕ)
    → NoneTold (By waits) told → TellsAll told (run commands (opening disk) schedule).steps
    → IsLegal (By waits) commands (opening disk) schedule → IsComplete commands (run commands (opening disk) schedule)
    → IsLegal (By waits) commands (opening disk) other
    → HasSameOutcome commands (run commands (opening disk) schedule) (run commands (opening disk) other)
