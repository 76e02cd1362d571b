-- A history that goes over the kept events of another.
use Rattle.std.specs.Prelude.{◌≡◌, ℕ, List}
use Rattle.rev_causal.specs.Machine.{run}
use Rattle.rev_history.specs.Timeline.{Timeline, chosen, machine_at, state_at}

-- it has come to the state after the events of these kept numbers
pub record IsPast (t : Timeline) (ks : List ℕ) (past : Timeline) : Type 0 where
  pub manifest_is : past.manifest ≡ t.manifest
  pub jobs_are : past.jobs ≡ t.jobs
  pub state_is : state_at past ≡ run (machine_at t) t.opening (chosen t.accepted ks)
