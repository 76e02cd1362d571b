-- The law by the waiting of build lines.
use Rattle.std.specs.Prelude.{List}
use Rattle.rev_manifest.specs.Manifest.{BuildValue}
use Rattle.rev_waits.specs.Waits.{Waits}
use Rattle.rev_world.specs.Laws.{OneOutcomeBy}
use Rattle.rev_world.specs.Schedules.{IsLegal, NoneConflict}

abbrev pub OneOutcome : Type 0
OneOutcome = (builds : List BuildValue) → OneOutcomeBy (IsLegal (Waits builds)) (NoneConflict (Waits builds))
