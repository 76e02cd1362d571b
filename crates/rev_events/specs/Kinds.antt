-- The kinds of events: when each is refused, and what it writes.
use Rattle.std.specs.Prelude.{ℕ, Bool, List, [], ◌∷◌, ◌++◌, map, Option, Some}
use Rattle.std.specs.List.{list_any}
use Rattle.rev_manifest.specs.Manifest.{BuildValue, ManifestValue}
use Rattle.rev_graph.specs.Graph.{build_at, outputs_of, pool_of}
use Rattle.rev_cells.specs.declared.cell.Cell.TheVariants as cell
use Rattle.rev_cells.specs.declared.mark.Mark.{Mark}
use Rattle.rev_cells.specs.declared.mark.Mark.TheVariants as mark
use Rattle.rev_cells.specs.declared.value.Value.TheVariants as value
use Rattle.rev_cells.specs.State.{State, stamp_of, mark_of, job_of, is_halted}
use Rattle.rev_dirty.specs.declared.reason.Reason.{Reason}
use Rattle.rev_dirty.specs.Inputs.{inputs}
use Rattle.rev_dirty.specs.Reasons.{reasons_of, newest_stamp, is_rebuilt, is_missing}
use Rattle.rev_plan.specs.Options.{first_some}
use Rattle.rev_events.specs.declared.event.Listing.{Listing}
use Rattle.rev_events.specs.declared.refusal.Refusal.{Refusal}
use Rattle.rev_events.specs.Refusal.{phony_edge, not_phony, halted, not_halted, not_wanted, not_marked, not_running, blocked, not_dirty, dirty, no_such_job, job_busy, pool_slot, slot_busy, wrong_outputs, unexpected_listing, bad_depfile, bad_resize, depth_in_use}
use Rattle.rev_events.specs.Pools.{present_depth, present_pool, slots_lost, first_held}
use Rattle.rev_events.specs.Edge.{Effect, write, first_blocking, slot_holder, write_slot, free_held, seen_by, write_stamps, changes, where_true, write_built, write_deps, pass_changes}

-- THE TESTS OF EACH KIND, in their order, by the values that they ask for
abbrev pub start_tests : BuildValue → Option (ℕ × ℕ) → ℕ → ℕ → Option ℕ → Bool → Mark → Option ℕ → List Reason
    → Option ℕ → Option ℕ → Option Refusal
start_tests build pool jobs job slot is m blocking reasons holder other =
    first_some (phony_edge build ∷ halted is ∷ not_wanted m ∷ blocked blocking ∷ not_dirty reasons
    ∷ no_such_job jobs job ∷ job_busy holder ∷ pool_slot pool slot ∷ slot_busy other ∷ [])

abbrev pub clean_tests : BuildValue → Mark → Option ℕ → List Reason → Option Refusal
clean_tests build m blocking reasons =
    first_some (phony_edge build ∷ not_wanted m ∷ blocked blocking ∷ dirty reasons ∷ [])

abbrev pub pass_tests : BuildValue → Mark → Option ℕ → Option Refusal
pass_tests build m blocking = first_some (not_phony build m ∷ not_marked m ∷ blocked blocking ∷ [])

abbrev pub finish_tests : BuildValue → List ℕ → Listing → Mark → Option Refusal
finish_tests build stamps listing m =
    first_some (phony_edge build ∷ not_running m ∷ wrong_outputs build stamps ∷ unexpected_listing build listing
    ∷ bad_depfile build listing ∷ [])

abbrev pub fail_tests : BuildValue → List ℕ → Mark → Option Refusal
fail_tests build stamps m = first_some (phony_edge build ∷ not_running m ∷ wrong_outputs build stamps ∷ [])

abbrev pub abort_tests : BuildValue → List ℕ → Bool → Mark → Option Refusal
abort_tests build stamps is m =
    first_some (phony_edge build ∷ not_halted is ∷ not_running m ∷ wrong_outputs build stamps ∷ [])

abbrev pub resize_tests : Option ℕ → ℕ → Option (ℕ × ℕ) → Option Refusal
resize_tests present depth held = first_some (bad_resize present depth ∷ depth_in_use held ∷ [])

module _ (manifest : ManifestValue) where
  abbrev pub build_of : ℕ → BuildValue
  build_of edge = build_at manifest.builds edge

  abbrev outputs : ℕ → List (List ℕ)
  outputs edge = outputs_of (build_of edge)

  -- START: the edge runs in its job and slot, and has seen the greatest visible stamp of the inputs that count
  unfoldable pub start_refusal : ℕ → ℕ → ℕ → Option ℕ → State → Option Refusal
  start_refusal jobs edge job slot state =
      start_tests (build_of edge) (present_pool manifest state edge) jobs job slot (is_halted state)
      (mark_of state edge)
      (first_blocking manifest.builds state (inputs state (build_of edge)))
      (reasons_of manifest.builds state edge) (job_of state job) (slot_holder state (pool_of manifest edge) slot)

  unfoldable pub start_effect : ℕ → ℕ → Option ℕ → State → Effect
  start_effect edge job slot state =
      write (cell.Mark edge)
      (value.Mark (mark.Running job slot (newest_stamp manifest.builds state (inputs state (build_of edge)))))
      ∷ write (cell.Job job) (value.Job (Some edge)) ∷ write_slot (pool_of manifest edge) slot (Some edge)

  -- CLEAN
  unfoldable pub clean_refusal : ℕ → State → Option Refusal
  clean_refusal edge state =
      clean_tests (build_of edge) (mark_of state edge)
      (first_blocking manifest.builds state (inputs state (build_of edge))) (reasons_of manifest.builds state edge)

  unfoldable pub clean_effect : ℕ → State → Effect
  clean_effect edge state = write (cell.Mark edge) (value.Mark mark.Clean) ∷ []

  -- PASS: the edge is done without a command
  unfoldable pub pass_refusal : ℕ → State → Option Refusal
  pass_refusal edge state =
      pass_tests (build_of edge) (mark_of state edge)
      (first_blocking manifest.builds state (inputs state (build_of edge)))

  unfoldable pub pass_effect : ℕ → State → Effect
  pass_effect edge state =
      write (cell.Mark edge) (value.Mark (mark.Done (pass_changes (mark_of state edge) (inputs state (build_of edge))
      (list_any (is_rebuilt manifest.builds state) (inputs state (build_of edge)))
      (map (is_missing state) (outputs edge))))) ∷ []

  -- FINISH: the edge is done; job and slot are free; the outputs have their stamps and records
  unfoldable pub finish_refusal : ℕ → List ℕ → Listing → State → Option Refusal
  finish_refusal edge stamps listing state = finish_tests (build_of edge) stamps listing (mark_of state edge)

  abbrev pub finish_by : ℕ → List ℕ → Listing → Mark → List Bool → Effect
  finish_by edge stamps listing m flags =
      write (cell.Mark edge) (value.Mark (mark.Done (where_true flags))) ∷ free_held (pool_of manifest edge) m
      ++ (write_stamps (outputs edge) stamps
      ++ (write_built (build_of edge).command (seen_by m) (outputs edge) flags stamps
      ++ write_deps (build_of edge) stamps listing))

  unfoldable pub finish_effect : ℕ → List ℕ → Listing → State → Effect
  finish_effect edge stamps listing state =
      finish_by edge stamps listing (mark_of state edge)
      (changes (build_of edge).restat (map (stamp_of state) (outputs edge)) stamps)

  -- FAIL and ABORT: the edge gets this mark; job and slot are free; the outputs have their stamps
  unfoldable pub fail_refusal : ℕ → List ℕ → State → Option Refusal
  fail_refusal edge stamps state = fail_tests (build_of edge) stamps (mark_of state edge)

  unfoldable pub abort_refusal : ℕ → List ℕ → State → Option Refusal
  abort_refusal edge stamps state = abort_tests (build_of edge) stamps (is_halted state) (mark_of state edge)

  unfoldable pub end_effect : ℕ → List ℕ → Mark → State → Effect
  end_effect edge stamps ended state =
      write (cell.Mark edge) (value.Mark ended) ∷ free_held (pool_of manifest edge) (mark_of state edge)
      ++ write_stamps (outputs edge) stamps

  -- RESIZE: the pool gets the depth
  unfoldable pub resize_refusal : ℕ → ℕ → State → Option Refusal
  resize_refusal pool depth state =
      resize_tests (present_depth manifest state pool) depth
      (first_held state pool (slots_lost depth (present_depth manifest state pool)))

  abbrev pub resize_effect : ℕ → ℕ → Effect
  resize_effect pool depth = write (cell.Depth pool) (value.Depth (Some depth)) ∷ []
