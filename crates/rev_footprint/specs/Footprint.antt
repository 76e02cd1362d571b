-- The footprint of an event in a state.
use Rattle.std.specs.Prelude.{Bool, true, false}
use Rattle.rev_manifest.specs.Manifest.{ManifestValue}
use Rattle.rev_cells.specs.State.{State}
use Rattle.rev_events.specs.declared.event.Event.{Event}
use Rattle.rev_events.specs.declared.event.Event.TheVariants.{Plan}
use Rattle.rev_events.specs.Written.{written}
use Rattle.rev_footprint.specs.Reads.{reads_besides}
use Rattle.rev_footprint.specs.Value.{FootprintValue, footprint_by}

-- a plan is whole
abbrev pub is_plan : Event → Bool
is_plan (Plan targets) = true
is_plan _ = false

-- exactly the cells of the event's row: those that it writes, and those that it reads besides
unfoldable pub footprint : ManifestValue → State → Event → FootprintValue
footprint manifest s e = footprint_by (is_plan e) (reads_besides manifest s e) (written manifest s e)
