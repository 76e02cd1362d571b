-- What follows where no two unordered commands conflict.
use Rattle.std.specs.Prelude.{◌≡◌, ℕ, Bool, true, List}
use Rattle.rev_world.specs.Commands.{Command, Disk, Step}
use Rattle.rev_world.specs.Schedules.{HasSameOutcome, IsComplete, IsLegal, NoneConflict, World, opening, run}

-- Of a rule by which schedules are legal, and one by which steps of edges, from a disk, do not conflict: where one legal
-- schedule ends with each command ended, and no two edges conflict in it, each legal schedule of the same commands from
-- the same disk has its outcome.
abbrev pub OneOutcomeFrom : ((ℕ → Command) → World → List ℕ → Type 0) → (Disk → (ℕ → List Step) → Type 0) → Type 0
OneOutcomeFrom IsLegal NoneConflict =
    (commands : ℕ → Command) (disk : Disk) (schedule other : List ℕ)
    → IsLegal commands (opening disk) schedule → IsComplete commands (run commands (opening disk) schedule)
    → NoneConflict disk (run commands (opening disk) schedule).steps → IsLegal commands (opening disk) other
    → HasSameOutcome commands (run commands (opening disk) schedule) (run commands (opening disk) other)

-- the same where the disk does not matter for conflicts
abbrev pub OneOutcomeBy : ((ℕ → Command) → World → List ℕ → Type 0) → ((ℕ → List Step) → Type 0) → Type 0
OneOutcomeBy IsLegal NoneConflict = OneOutcomeFrom IsLegal (λ disk. NoneConflict)

-- By any waiting that goes through: a command does its steps after all that its edge waits for, and of two that conflict
-- one waits for the other. (Over rev_waits, Waits builds is such a relation. A test stands for it here.)
abbrev pub By : (ℕ → ℕ → Bool) → ℕ → ℕ → Type 0
By waits a b = waits a b ≡ true

abbrev pub GoesThrough : (ℕ → ℕ → Bool) → Type 0
GoesThrough waits = (a b c : ℕ) → By waits a b → By waits b c → By waits a c

abbrev pub OneOutcome : Type 0
OneOutcome = (waits : ℕ → ℕ → Bool) → GoesThrough waits → OneOutcomeBy (IsLegal (By waits)) (NoneConflict (By waits))
