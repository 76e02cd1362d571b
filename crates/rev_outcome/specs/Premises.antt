-- What the premises of the law are for: without one of them the same statement is false.
use Rattle.std.specs.Prelude.{◌≡◌, ◌≢◌, ◌⊎◌, ◌↔◌, ℕ, true, List}
use Rattle.rev_manifest.specs.Manifest.{BuildValue}
use Rattle.rev_waits.specs.Waits.{Waits}
use Rattle.rev_outcome.specs.Commands.{Command, Disk, Step, is_end}
use Rattle.rev_outcome.specs.Schedules.{HasSameOutcome, IsComplete, IsLegal, NoneConflict, World, leaves, opening, run}
use Rattle.rev_outcome.specs.Laws.{OneOutcomeBy}

-- two edges conflict only where both leave a path: what one looks at does not count
abbrev pub NoneLeaveBoth : (ℕ → ℕ → Type 0) → (ℕ → List Step) → Type 0
NoneLeaveBoth Waits steps =
    (a b : ℕ) (path : List ℕ) → a ≢ b → leaves path (steps a) ≡ true → leaves path (steps b) ≡ true
    → Waits a b ⊎ Waits b a

abbrev pub LooksCount : Type 0
LooksCount = ((builds : List BuildValue) → OneOutcomeBy (IsLegal (Waits builds)) (NoneLeaveBoth (Waits builds))) → ⊥

-- each schedule is legal: a command need not wait for what its edge waits for
abbrev pub IsAny : (ℕ → Command) → World → List ℕ → Type 0
IsAny commands world edges = Unit {0}

abbrev pub OrderCounts : Type 0
OrderCounts = ((builds : List BuildValue) → OneOutcomeBy IsAny (NoneConflict (Waits builds))) → ⊥

-- TWO EDGES THAT NEED NOT WAIT
-- Commands of two edges, where those of all others do nothing, with two legal schedules that end with each command ended
-- and have two outcomes.
pub record CanDiffer (builds : List BuildValue) (a b : ℕ) : Type 0 where
  pub commands : ℕ → Command
  pub disk : Disk
  pub one : List ℕ
  pub other : List ℕ
  pub idle : (edge : ℕ) → edge ≢ a → edge ≢ b → (steps : List Step) → is_end (commands edge steps) ≡ true
  pub one_legal : IsLegal (Waits builds) commands (opening disk) one
  pub other_legal : IsLegal (Waits builds) commands (opening disk) other
  pub one_complete : IsComplete commands (run commands (opening disk) one)
  pub other_complete : IsComplete commands (run commands (opening disk) other)
  pub differ : HasSameOutcome commands (run commands (opening disk) one) (run commands (opening disk) other) → ⊥

-- Of two edges that do not wait for themselves, neither waits for the other exactly where their commands can be such that
-- a build of them has two outcomes.
abbrev pub UnorderedMatters : Type 0
UnorderedMatters =
    (builds : List BuildValue) (a b : ℕ) → a ≢ b → (Waits builds a a → ⊥) → (Waits builds b b → ⊥)
    → ((Waits builds a b → ⊥) × (Waits builds b a → ⊥)) ↔ CanDiffer builds a b
