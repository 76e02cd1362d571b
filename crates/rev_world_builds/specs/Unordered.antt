-- Of two edges that need not wait for one another, the commands can be such that a build has two outcomes.
use Rattle.std.specs.Prelude.{◌≡◌, ◌≢◌, ◌↔◌, ℕ, true, List}
use Rattle.rev_manifest.specs.Manifest.{BuildValue}
use Rattle.rev_waits.specs.Waits.{Waits}
use Rattle.rev_world.specs.Commands.{Command, Disk, Step, is_end}
use Rattle.rev_world.specs.Schedules.{HasSameOutcome, IsComplete, IsLegal, opening, run}

-- TWO EDGES THAT NEED NOT WAIT
-- Commands of two edges, where those of all others do nothing, with two legal schedules that end with each command ended
-- and have two outcomes.
pub record CanDiffer (builds : List BuildValue) (a b : ℕ) : Type 0 where
  pub commands : ℕ → Command
  pub disk : Disk
  pub one : List ℕ
  pub other : List ℕ
  pub idle : (edge : ℕ) → edge ≢ a → edge ≢ b → (steps : List Step) → is_end (commands edge steps) ≡ true
  pub one_legal : IsLegal (Waits builds) commands (opening disk) one
  pub other_legal : IsLegal (Waits builds) commands (opening disk) other
  pub one_complete : IsComplete commands (run commands (opening disk) one)
  pub other_complete : IsComplete commands (run commands (opening disk) other)
  pub differ : HasSameOutcome commands (run commands (opening disk) one) (run commands (opening disk) other) → ⊥

-- Of two edges that do not wait for themselves, neither waits for the other exactly where their commands can be such that
-- a build of them has two outcomes.
abbrev pub UnorderedMatters : Type 0
UnorderedMatters =
    (builds : List BuildValue) (a b : ℕ) → a ≢ b → (Waits builds a a → ⊥) → (Waits builds b b → ⊥)
    → ((Waits builds a b → ⊥) × (Waits builds b a → ⊥)) ↔ CanDiffer builds a b
