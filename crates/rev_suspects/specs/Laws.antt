-- What holds of each suspect.
use Rattle.std.specs.Prelude.{◌≡◌, ℕ, ◌<◌, true, false, List, [], ◌∷◌, ◌++◌, length, Contains}
use Rattle.rev_causal.specs.Machine.{Legal, run}
use Rattle.rev_cells.specs.State.{State, mark_of}
use Rattle.rev_cells.specs.declared.mark.Mark.TheVariants as mark
use Rattle.rev_events.specs.declared.event.Event.{Event}
use Rattle.rev_events.specs.Refusal.{is_settled}
use Rattle.rev_footprint.specs.Machine.{machine}
use Rattle.rev_graph.specs.Graph.{GraphValue, IsGraph, build_at}
use Rattle.rev_history.specs.Timeline.{IsHistory, Numbered, Timeline, machine_at}
use Rattle.rev_manifest.specs.Manifest.{ManifestValue}
use Rattle.rev_races.specs.Laws.{CanStartBefore, HasSourcesAlone}
use Rattle.rev_races.specs.Races.{is_plan, starts}
use Rattle.rev_suspects.specs.Failures.{failures_of}
use Rattle.rev_suspects.specs.Suspects.{is_suspect, state_before}
use Rattle.rev_suspects.specs.declared.failed.Failure.{Failure}
use Rattle.rev_suspects.specs.declared.suspected.Progress.{Progress}

-- From nothing, events are accepted on one job that begin with a plan which wants a, and end with a start of b, before
-- which a is settled.
pub record CanEndBefore (manifest : ManifestValue) (b a : ℕ) : Type 0 where
  pub opening : State
  pub from_nothing : HasSourcesAlone manifest.builds opening
  pub plan : Event
  pub before : Numbered
  pub n : ℕ
  pub e : Event
  pub legal : Legal (machine manifest 1) opening ((0, plan) ∷ before ++ (n, e) ∷ [])
  pub planned : is_plan plan ≡ true
  pub wanted : mark_of (run (machine manifest 1) opening ((0, plan) ∷ [])) a ≡ mark.Wanted
  pub begins : starts manifest b e ≡ true
  pub ended : is_settled (mark_of (run (machine manifest 1) opening ((0, plan) ∷ before)) a) ≡ true

-- The order of a suspect and of the command that failed is open: the same two edges can run so that the suspect is
-- still to run when the other one starts, and so that it is through.
pub record AreInAnyOrder (manifest : ManifestValue) (b a : ℕ) : Type 0 where
  pub late : CanStartBefore manifest b a
  pub early : CanEndBefore manifest b a

abbrev pub SuspectsAreInAnyOrder : Type 0
SuspectsAreInAnyOrder =
    (graph : GraphValue) (files : List (List ℕ)) (s : State) (failed : ℕ) (progress : Progress) (edge : ℕ)
    → IsGraph graph → failed < length graph.manifest.builds → (build_at graph.manifest.builds failed).phony ≡ false
    → edge < length graph.manifest.builds → is_suspect graph.manifest files s failed progress edge ≡ true
    → AreInAnyOrder graph.manifest failed edge

-- In the history's own order a start of b is accepted before which a is not settled.
pub record StartsUnsettled (t : Timeline) (b a : ℕ) : Type 0 where
  pub before : Numbered
  pub n : ℕ
  pub e : Event
  pub legal : Legal (machine_at t) t.opening (before ++ (n, e) ∷ [])
  pub begins : starts t.manifest b e ≡ true
  pub unsettled : is_settled (mark_of (run (machine_at t) t.opening before) a) ≡ false

-- No suspect is settled before the command that failed in every order that is legal from the history's opening: in the
-- history's own order it is not.
abbrev pub SuspectsAreNotForced : Type 0
SuspectsAreNotForced =
    (t : Timeline) (files : List (List ℕ)) (f : Failure) (progress : Progress) (edge : ℕ) → IsHistory t
    → Contains (failures_of t) f → is_suspect t.manifest files (state_before t f.began) f.edge progress edge ≡ true
    → StartsUnsettled t f.edge edge
