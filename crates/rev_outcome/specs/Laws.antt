-- What follows where no two unordered commands conflict.
use Rattle.std.specs.Prelude.{ℕ, List}
use Rattle.rev_manifest.specs.Manifest.{BuildValue}
use Rattle.rev_waits.specs.Waits.{Waits}
use Rattle.rev_outcome.specs.Commands.{Command, Disk, Step}
use Rattle.rev_outcome.specs.Schedules.{HasSameOutcome, IsComplete, IsLegal, NoneConflict, World, opening, run}

-- Of a rule by which schedules are legal, and one by which steps of edges do not conflict: where one legal schedule ends
-- with each command ended, and no two edges conflict in it, each legal schedule of the same commands from the same disk
-- has its outcome.
abbrev pub OneOutcomeBy : ((ℕ → Command) → World → List ℕ → Type 0) → ((ℕ → List Step) → Type 0) → Type 0
OneOutcomeBy IsLegal NoneConflict =
    (commands : ℕ → Command) (disk : Disk) (schedule other : List ℕ)
    → IsLegal commands (opening disk) schedule → IsComplete commands (run commands (opening disk) schedule)
    → NoneConflict (run commands (opening disk) schedule).steps → IsLegal commands (opening disk) other
    → HasSameOutcome commands (run commands (opening disk) schedule) (run commands (opening disk) other)

-- By the waiting of build lines: a command does its steps after all that its edge waits for, and of two that conflict
-- one waits for the other.
abbrev pub OneOutcome : Type 0
OneOutcome = (builds : List BuildValue) → OneOutcomeBy (IsLegal (Waits builds)) (NoneConflict (Waits builds))
