-- Along every legal list from an opening, what is held is what runs.
use Rattle.std.proofs.Common.{ℕ, List, [], ◌∷◌}
use Rattle.rev_causal.specs.Machine.{Legal, run}
use Rattle.rev_manifest.specs.Manifest.{ManifestValue}
use Rattle.rev_cells.specs.State.{State}
use Rattle.rev_events.specs.declared.event.Event.{Event}
use Rattle.rev_events.specs.Held.{IsHeldExactly}
use Rattle.rev_events.specs.Machine.{after}
use Rattle.rev_events.proofs.HeldEvents.{held-is-running}
use Rattle.rev_footprint.specs.Laws.{RunsHoldExactly}
use Rattle.rev_footprint.specs.Machine.{machine}

run-held : (manifest : ManifestValue) (jobs : ℕ) (s : State) (events : List (ℕ × Event)) → Legal (machine manifest jobs) s events → IsHeldExactly manifest s → IsHeldExactly manifest (run (machine manifest jobs) s events)
run-held manifest jobs s [] legal h = h
run-held manifest jobs s (e ∷ events) legal h = run-held manifest jobs (after manifest s e.1) events legal.1 (held-is-running.kept manifest jobs s e.1 legal.0 h)

pub runs-hold-exactly : RunsHoldExactly
runs-hold-exactly manifest jobs opening events o legal = run-held manifest jobs opening events legal (held-is-running.opened manifest opening o)
