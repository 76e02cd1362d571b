-- A history as its callers see it: what happened, and how often a cell was written.
use Rattle.std.specs.Prelude.{ℕ, refl}
use Rattle.std.specs.Coded.{Coded, code_by, coded×, coded_ℕ}
use Rattle.rev_causal.specs.KeptHistory as kept_history
use Rattle.rev_footprint.specs.Machine.{table}
use Rattle.rev_history.specs.Timeline.{Timeline, timeline_code, kept_events}

pub record HistoryValue : Type 0 where
  pub timeline : Timeline
  pub writes : ℕ

abbrev pub value_code : Coded HistoryValue
value_code =
    code_by (Timeline × ℕ) (coded× timeline_code coded_ℕ) (λ h. (h.timeline, h.writes))
    (λ p. record { timeline = p.0; writes = p.1 }) (λ _. refl)

-- how many cells the event of a kept number writes at its place
abbrev pub cells_written : ℕ → Timeline → ℕ
cells_written n t = kept_history.cells_written (table t.manifest t.jobs) n t.opening (kept_events t)
