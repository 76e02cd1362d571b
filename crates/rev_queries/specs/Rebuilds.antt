-- What would be to do if files were touched.
use Rattle.std.specs.Prelude.{◌≡◌, ℕ, Bool, List, map, find, length, Option, Some, None, slice_index_or, if◌then◌else◌}
use Rattle.std.specs.List.{filter_map, range_with_len}
use Rattle.rev_cells.specs.declared.cell.Cell.{Cell}
use Rattle.rev_cells.specs.declared.cell.Cell.TheVariants as cell
use Rattle.rev_cells.specs.declared.mark.Mark.{Mark}
use Rattle.rev_cells.specs.declared.mark.Mark.TheVariants as mark
use Rattle.rev_cells.specs.declared.value.Value.{Value}
use Rattle.rev_cells.specs.declared.value.Value.TheVariants as value
use Rattle.rev_cells.specs.Effects.{set_all}
use Rattle.rev_cells.specs.State.{State, value_at}
use Rattle.rev_cells.specs.Values.{Fits}
use Rattle.rev_manifest.specs.Builds.{BuildValue, ManifestValue}
use Rattle.rev_dirty.specs.Reasons.{reasons_of}
use Rattle.rev_plan.specs.declared.fault.PlanFault.{PlanFault}
use Rattle.rev_plan.specs.Chain.{is_wanted_mark}
use Rattle.rev_plan.specs.Fault.{Explains}
use Rattle.rev_plan.specs.Plan.{is_own_reason, marks_of, plan_refusal}
use Rattle.rev_queries.specs.declared.rebuild.Rebuild.{Rebuild}
use Rattle.rev_queries.specs.declared.rebuild.TheConstants.{LATEST}

-- a path's stamp, later than every other
abbrev pub touch : List ℕ → Cell × Value
touch path = (cell.Stamp path, value.Stamp LATEST)

-- in each cell two states hold the same
abbrev pub HoldAlike : State → State → Type 0
HoldAlike one other = (c : Cell) → value_at other c ≡ value_at one c

-- A state that holds what another does, in which these paths were then touched.
pub record IsTouched (before : State) (paths : List (List ℕ)) (after : State) : Type 0 where
  pub copy : State
  pub alike : HoldAlike before copy
  pub touched : after ≡ set_all copy (map touch paths)

-- an edge that a plan wants, with the first reason that its producers did not give it
abbrev pub rebuild_by : List BuildValue → State → ℕ → Bool → Option Rebuild
rebuild_by builds state edge wanted =
    if wanted then Some (record { edge = edge; reason = find is_own_reason (reasons_of builds state edge) }) else None

abbrev pub is_wanted_in : List Mark → ℕ → Bool
is_wanted_in marks edge = is_wanted_mark (slice_index_or marks edge mark.Idle)

abbrev pub rebuild_at : List BuildValue → State → List Mark → ℕ → Option Rebuild
rebuild_at builds state marks edge = rebuild_by builds state edge (is_wanted_in marks edge)

abbrev pub rebuilds_by : List BuildValue → State → List Mark → List Rebuild
rebuilds_by builds state marks = filter_map (rebuild_at builds state marks) (range_with_len 0 (length builds))

-- the edges that a plan for these targets wants in a state, in their order
abbrev pub rebuilds_in : ManifestValue → State → List (List ℕ) → List Rebuild
rebuilds_in manifest state targets = rebuilds_by manifest.builds state (marks_of manifest state targets)

-- WHAT WOULD BE TO DO if these paths were touched in a state: what a plan wants in a state in which they were.
pub record AreRebuilds (manifest : ManifestValue) (before : State) (targets paths : List (List ℕ))
    (rebuilds : List Rebuild) : Type 0 where
  pub after : State
  pub touched : IsTouched before paths after
  pub wanted : rebuilds ≡ rebuilds_in manifest after targets

-- The plan for such a state is refused.
pub record IsRefusedAfter (manifest : ManifestValue) (before : State) (targets paths : List (List ℕ)) (fault : PlanFault)
    : Type 0 where
  pub after : State
  pub touched : IsTouched before paths after
  pub explained : Explains fault (plan_refusal manifest after targets)

-- AS CELLS ARE COPIED
abbrev pub entry_in : State → Cell → Cell × Value
entry_in state c = (c, value_at state c)

abbrev pub EntryFits : Cell × Value → Type 0
EntryFits entry = Fits entry.0 entry.1
