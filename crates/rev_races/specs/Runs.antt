-- The runs of an edge's command in a history.
use Rattle.std.specs.Prelude.{◌≡◌, ℕ, nat_lt, Bool, true, false, ◌&&◌, List, [], ◌∷◌, Option, Some, None, slice_index_or, is_some, option_and_then, if◌then◌else◌}
use Rattle.std.specs.Option.{option_map, option_or}
use Rattle.rev_manifest.specs.Manifest.{ManifestValue}
use Rattle.rev_events.specs.declared.event.Event.{Event}
use Rattle.rev_events.specs.declared.event.Event.TheVariants.{Finish, Fail, Abort}
use Rattle.rev_history.specs.Timeline.{Numbered, Timeline, kept_events}
use Rattle.rev_races.specs.declared.runs.Run.{Run}
use Rattle.rev_races.specs.declared.runs.Runs.{Runs}
use Rattle.rev_races.specs.declared.runs.Step.{Step}
use Rattle.rev_races.specs.declared.runs.Step.TheVariants as step
use Rattle.rev_races.specs.Races.{list_of, names, starts}

-- the event ends the edge's command, well or not
abbrev pub ends : ManifestValue → ℕ → Event → Bool
ends manifest edge (Finish out stamps listing) = names manifest edge out
ends manifest edge (Fail out stamps) = names manifest edge out
ends manifest edge (Abort out stamps) = names manifest edge out
ends manifest edge _ = false

-- the event ends it well
abbrev pub finishes : ManifestValue → ℕ → Event → Bool
finishes manifest edge e = is_some (list_of manifest edge e)

-- the number of the last event that passes
abbrev pub last_number : (ℕ × Event → Bool) → Numbered → Option ℕ
last_number test [] = None
last_number test (e ∷ es) = option_or (last_number test es) (if test e then Some e.0 else None)

-- the last start, and the last end after it, where there is one
abbrev pub run_from : ManifestValue → ℕ → Numbered → ℕ → Run
run_from manifest edge events n =
    record { began = n; ended = last_number (λ (e : ℕ × Event). nat_lt n e.0 && ends manifest edge e.1) events }

abbrev pub last_run : ManifestValue → ℕ → Numbered → Option Run
last_run manifest edge events =
    option_map (run_from manifest edge events)
    (last_number (λ (e : ℕ × Event). starts manifest edge e.1) events)

-- the last finish, and the last start before it
abbrev pub run_until : ManifestValue → ℕ → Numbered → ℕ → Option Run
run_until manifest edge events n =
    option_map (λ began. record { began = began; ended = Some n })
    (last_number (λ (e : ℕ × Event). nat_lt e.0 n && starts manifest edge e.1) events)

abbrev pub finished_run : ManifestValue → ℕ → Numbered → Option Run
finished_run manifest edge events =
    option_and_then (run_until manifest edge events)
    (last_number (λ (e : ℕ × Event). finishes manifest edge e.1) events)

-- AS THEY ARE FOUND
abbrev pub is_step : Step → ManifestValue → ℕ → Event → Bool
is_step step.Begin = starts
is_step step.BeginBefore = starts
is_step step.EndAfter = ends
is_step step.Finish = finishes

-- whether a number counts beside an edge's bound
abbrev pub is_within : Step → Option ℕ → ℕ → Bool
is_within step.Begin bound n = true
is_within step.Finish bound n = true
is_within step.BeginBefore None n = false
is_within step.BeginBefore (Some bound) n = nat_lt n bound
is_within step.EndAfter None n = false
is_within step.EndAfter (Some bound) n = nat_lt bound n

abbrev pub counts : Step → ManifestValue → Option ℕ → ℕ → ℕ × Event → Bool
counts step manifest bound edge e = is_within step bound e.0 && is_step step manifest edge e.1

-- for each edge the number of the last event that counts
pub record AreLast (t : Timeline) (step : Step) (bounds last : List (Option ℕ)) : Type 0 where
  pub exact : (edge : ℕ) → slice_index_or last edge None
      ≡ last_number (counts step t.manifest (slice_index_or bounds edge None) edge) (kept_events t)

pub record AreRuns (t : Timeline) (runs : Runs) : Type 0 where
  pub begins : AreLast t step.Begin [] runs.begins.items
  pub ends_after : AreLast t step.EndAfter runs.begins.items runs.ends.items
  pub finishes_are : AreLast t step.Finish [] runs.finishes.items
  pub befores : AreLast t step.BeginBefore runs.finishes.items runs.befores.items
