-- The machine of builds: a table of its events.
use Rattle.std.specs.Prelude.{ℕ}
use Rattle.rev_causal.specs.Machine.{Machine}
use Rattle.rev_causal.specs.Store.{Table, machine_of}
use Rattle.rev_manifest.specs.Manifest.{ManifestValue}
use Rattle.rev_cells.specs.declared.cell.Cell.{Cell}
use Rattle.rev_cells.specs.declared.value.Value.{Value}
use Rattle.rev_cells.specs.Keys.{cell_cmp}
use Rattle.rev_events.specs.declared.event.Event.{Event}
use Rattle.rev_events.specs.declared.refusal.Refusal.{Refusal}
use Rattle.rev_events.specs.Machine.{refusal, effect}
use Rattle.rev_footprint.specs.Footprint.{footprint}
use Rattle.rev_footprint.specs.Value.{print_of}

-- what is said of each event of a build in a state: why it is refused, what it writes, and its footprint
abbrev pub table : ManifestValue → ℕ → Table Cell Value Event Refusal cell_cmp
table manifest jobs =
    record {
      refusal = refusal manifest jobs;
      effect = effect manifest;
      footprint = λ s e. print_of (footprint manifest s e);
    }

abbrev pub machine : ManifestValue → ℕ → Machine
machine manifest jobs = machine_of (table manifest jobs)
