-- Suspects: commands that a failed one does not wait for, and that were not through when it began.
use Rattle.std.specs.Prelude.{◌≡◌, ℕ, ◌<◌, ◌==◌, Bool, true, false, not, ◌&&◌, List, [], ◌++◌, map, filter, length, slice_index_or, take, if◌then◌else◌}
use Rattle.std.specs.Global.{Vec}
use Rattle.std.specs.List.{flat_map, list_any}
use Rattle.rev_causal.specs.Machine.{run}
use Rattle.rev_cells.specs.State.{State, mark_of}
use Rattle.rev_cells.specs.declared.mark.Mark.{Mark}
use Rattle.rev_cells.specs.declared.mark.Mark.TheVariants as mark
use Rattle.rev_graph.specs.Graph.{build_at}
use Rattle.rev_history.specs.Timeline.{Timeline, is_among, machine_at}
use Rattle.rev_manifest.specs.Manifest.{BuildValue, ManifestValue}
use Rattle.rev_waits.specs.Waits.{waits}
use Rattle.rev_races.specs.Judged.{edges_of}
use Rattle.rev_races.specs.Races.{names}
use Rattle.rev_suspects.specs.Failures.{failures_of, kept_before}
use Rattle.rev_suspects.specs.declared.failed.Failure.{Failure}
use Rattle.rev_suspects.specs.declared.suspected.Progress.{Progress}
use Rattle.rev_suspects.specs.declared.suspected.Progress.TheVariants.{Running, Failed, ToRun}
use Rattle.rev_suspects.specs.declared.suspected.Suspect.{Suspect}

-- the state in which the event of a kept number was accepted
abbrev pub state_before : Timeline → ℕ → State
state_before t n = run (machine_at t) t.opening (kept_before t n)

-- the edge's command runs; it is still to run; it failed
abbrev pub is_at : Progress → Mark → Bool
is_at Running (mark.Running job slot seen) = true
is_at Running _ = false
is_at ToRun mark.Wanted = true
is_at ToRun _ = false
is_at Failed mark.Failed = true
is_at Failed _ = false

-- An edge is a suspect of a failed one that began in a state: it has a command, is not that one, neither waits for the
-- other, and its command ran there, was still to run, or had failed. What makes one of these files, as those that the
-- manifest was read from, runs before all else.
abbrev pub is_suspect : ManifestValue → List (List ℕ) → State → ℕ → Progress → ℕ → Bool
is_suspect manifest files s failed progress edge =
    not (build_at manifest.builds edge).phony && not (edge == failed) && not (waits manifest.builds failed edge)
    && not (waits manifest.builds edge failed) && is_at progress (mark_of s edge)
    && not (list_any (names manifest edge) files)

abbrev pub suspect_as : Failure → Progress → ℕ → Suspect
suspect_as f progress edge = record { failed = f.number; maker = edge; progress = progress }

-- the suspects of a run that failed in a state that are so far, by their numbers
abbrev pub suspects_at : ManifestValue → List (List ℕ) → State → Failure → Progress → List Suspect
suspects_at manifest files s f progress =
    map (suspect_as f progress) (filter (is_suspect manifest files s f.edge progress) (edges_of manifest.builds))

-- all suspects of a run that failed: first those that ran when it began, then those that were still to run, and last
-- those that had failed by then
abbrev pub suspects_in : ManifestValue → List (List ℕ) → State → Failure → List Suspect
suspects_in manifest files s f =
    (suspects_at manifest files s f Running ++ suspects_at manifest files s f ToRun)
    ++ suspects_at manifest files s f Failed

abbrev pub suspects_of : Timeline → List (List ℕ) → Failure → List Suspect
suspects_of t files f = suspects_in t.manifest files (state_before t f.began) f

-- those of the first runs that failed, in the order in which they did
abbrev pub first_suspects : Timeline → List (List ℕ) → ℕ → List Suspect
first_suspects t files most = flat_map (suspects_of t files) (take most (failures_of t))

-- AS THEY ARE FOUND
abbrev pub no_failure : Failure
no_failure = record { number = 0; edge = 0; began = 0 }

abbrev pub failure_in : List Failure → ℕ → Failure
failure_in failures place = slice_index_or failures place no_failure

abbrev pub lists_of : List (Vec Suspect) → List (List Suspect)
lists_of lists = map (λ (v : Vec Suspect). v.items) lists

abbrev pub list_in : List (Vec Suspect) → ℕ → List Suspect
list_in lists place = slice_index_or (lists_of lists) place []

-- a list for each run that failed: its suspects, where one of these numbers began it, and else none
pub record AreFound (t : Timeline) (files : List (List ℕ)) (failures : List Failure) (ks : List ℕ) (lists : List (Vec Suspect))
    : Type 0 where
  pub each : length lists ≡ length failures
  pub exact : (place : ℕ) → place < length failures → list_in lists place
      ≡ (if is_among ks (failure_in failures place).began then suspects_of t files (failure_in failures place) else [])

-- a mark for each edge: what an edge waits for, and what waits for it
pub record AreMarkedBy (builds : List BuildValue) (test : ℕ → Bool) (marks : List Bool) : Type 0 where
  pub each : length marks ≡ length builds
  pub exact : (edge : ℕ) → slice_index_or marks edge false ≡ test edge
