-- What a certificate without obstacles assures.
use Rattle.std.specs.Prelude.{◌≡◌, ℕ, Bool, List, []}
use Rattle.rev_manifest.specs.Builds.{BuildValue}
use Rattle.rev_observation.specs.Observations.{ObservationValue}
use Rattle.rev_world.specs.Commands.{Command, Disk, Place}
use Rattle.rev_world.specs.Laws.{By}
use Rattle.rev_world.specs.Observed.{TellsAll}
use Rattle.rev_world.specs.Schedules.{HasSameOutcome, IsComplete, IsLegal, opening, run}
use Rattle.rev_entry_conflicts.specs.Conflicts.{conflicts}
use Rattle.rev_entry_conflicts.specs.Deeds.{Scene, waits}
use Rattle.rev_entry_conflicts.specs.Joins.{AreNamed, told}
use Rattle.rev_certificate.specs.Obstacles.{obstacles}

-- Where nothing stands in the way, and the observation says all that the commands of one legal schedule did, each legal
-- schedule of the same commands from the same disk has its outcome.
abbrev pub CertainOneOutcome : Type 0
CertainOneOutcome =
    (s : Scene) (builds : List BuildValue) (o : ObservationValue) (edges : List ℕ)
    (early needed began ended : List Bool)
    (place_of : ℕ → Place) (commands : ℕ → Command) (disk : Disk) (schedule other : List ℕ)
    → obstacles builds o edges early needed began ended (conflicts s) ≡ [] → AreNamed s place_of
    → TellsAll (told s place_of) (run commands (opening disk) schedule).steps
    → IsLegal (By (waits s)) commands (opening disk) schedule
    → IsComplete commands (run commands (opening disk) schedule)
    → IsLegal (By (waits s)) commands (opening disk) other
    → HasSameOutcome commands (run commands (opening disk) schedule) (run commands (opening disk) other)
