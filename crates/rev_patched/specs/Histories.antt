-- What holds of every history of a provoked manifest.
use Rattle.std.specs.Prelude.{◌≡◌, ℕ, true, ◌∷◌, ◌++◌}
use Rattle.rev_manifest.specs.Manifest.{ManifestValue}
use Rattle.rev_cells.specs.State.{mark_of}
use Rattle.rev_causal.specs.Machine.{run}
use Rattle.rev_events.specs.declared.event.Event.{Event}
use Rattle.rev_events.specs.Held.{IsOpened}
use Rattle.rev_events.specs.Refusal.{is_settled}
use Rattle.rev_history.specs.Timeline.{IsHistory, Numbered, Timeline, kept_events, machine_at}
use Rattle.rev_races.specs.Races.{starts}
use Rattle.rev_patched.specs.Provoked.{IsProvoked}

-- In no history of a provoked manifest, from an opening without marks, does the maker start before the user is settled:
-- where a kept event starts the maker, the user is idle, done or clean.
abbrev pub UserComesFirst : Type 0
UserComesFirst =
    (old : ManifestValue) (user maker : ℕ) (t : Timeline) (before later : Numbered) (n : ℕ) (e : Event)
    → IsProvoked old t.manifest user maker → IsHistory t → IsOpened t.opening
    → kept_events t ≡ before ++ (n, e) ∷ later → starts t.manifest maker e ≡ true
    → is_settled (mark_of (run (machine_at t) t.opening before) user) ≡ true
