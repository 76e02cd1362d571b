-- What a plan marks, as functions of a manifest, a state and targets.
use Rattle.std.specs.Prelude.{ℕ, ◌==◌, nat_eq, Bool, true, false, not, ◌&&◌, ◌||◌, List, [], ◌∷◌, ◌++◌, map, length, find, Option, Some, None, is_some, is_none, if◌then◌else◌}
use Rattle.std.specs.List.{list_any, position, range_with_len}
use Rattle.std.specs.Option.{option_map}
use Rattle.rev_manifest.specs.Manifest.{BuildValue, ManifestValue}
use Rattle.rev_graph.specs.Graph.{build_at, inputs_of, producer_of, is_known}
use Rattle.rev_cells.specs.State.{State, stamp_of, mark_of}
use Rattle.rev_cells.specs.declared.mark.Mark.{Mark}
use Rattle.rev_cells.specs.declared.mark.Mark.TheVariants as mark
use Rattle.rev_dirty.specs.declared.reason.Reason.{Reason}
use Rattle.rev_dirty.specs.Inputs.{inputs, paths_of, producers_in}
use Rattle.rev_dirty.specs.Reasons.{kind_of, counted, reasons_of}
use Rattle.rev_ranks.specs.Leads.{leads_to, is_reachable}
use Rattle.rev_plan.specs.Options.{first_some}

-- the numbers of all edges
abbrev pub edge_numbers : List BuildValue → List ℕ
edge_numbers builds = range_with_len 0 (length builds)

-- the paths of an edge's inputs, of those that count, and with its validations
abbrev pub input_paths : State → BuildValue → List (List ℕ)
input_paths state build = paths_of (inputs state build)

abbrev pub counted_paths : State → BuildValue → List (List ℕ)
counted_paths state build = paths_of (counted (inputs state build))

abbrev pub needed_paths : State → BuildValue → List (List ℕ)
needed_paths state build = input_paths state build ++ build.validations

-- the graph in which each edge steps to the producers of its paths
abbrev pub edges_by : (BuildValue → List (List ℕ)) → List BuildValue → List (List ℕ)
edges_by paths builds = map (λ build. producers_in builds (paths build)) builds

-- the targets of a plan: those that are given, or the manifest's defaults where none is
abbrev pub targets_or : List (List ℕ) → List (List ℕ) → List (List ℕ)
targets_or defaults [] = defaults
targets_or defaults (t ∷ ts) = t ∷ ts

-- an edge has a reason that its producers did not give it
abbrev pub is_own_reason : Reason → Bool
is_own_reason r = not (kind_of r == 4)

abbrev pub is_dirty : List BuildValue → State → ℕ → Bool
is_dirty builds state edge = list_any is_own_reason (reasons_of builds state edge)

-- reached: one of the roots, or led to by one of them
unfoldable pub is_reached : List BuildValue → State → List ℕ → ℕ → Bool
is_reached builds state roots edge = is_reachable (edges_by (needed_paths state) builds) roots edge

-- wanted: reached, and dirty or leading to a dirty edge by inputs that count
unfoldable pub is_wanted : List BuildValue → State → List ℕ → ℕ → Bool
is_wanted builds state roots edge =
    is_reached builds state roots edge
    && (is_dirty builds state edge || leads_to (edges_by (counted_paths state) builds) (is_dirty builds state) edge)

-- through: reached and not wanted, and leading to a wanted edge by inputs
unfoldable pub is_through : List BuildValue → State → List ℕ → ℕ → Bool
is_through builds state roots edge =
    is_reached builds state roots edge && not (is_wanted builds state roots edge)
    && leads_to (edges_by (input_paths state) builds) (is_wanted builds state roots) edge

abbrev pub mark_for : List BuildValue → State → List ℕ → ℕ → Mark
mark_for builds state roots edge =
    if is_wanted builds state roots edge then mark.Wanted else if is_through builds state roots edge then mark.Through
    else mark.Idle

-- the marks that a plan gives the edges
unfoldable pub marks_of : ManifestValue → State → List (List ℕ) → List Mark
marks_of manifest state targets =
    let roots = producers_in manifest.builds (targets_or manifest.defaults targets) in
    map (mark_for manifest.builds state roots) (edge_numbers manifest.builds)

-- WHY THERE IS NO PLAN
abbrev pub is_running_mark : Mark → Bool
is_running_mark (mark.Running job slot seen) = true
is_running_mark _ = false

abbrev pub is_running : State → ℕ → Bool
is_running state edge = is_running_mark (mark_of state edge)

-- an input of a build line that nothing produces and that is not there
abbrev pub is_lacking : List BuildValue → State → List ℕ → Bool
is_lacking builds state path = is_none (producer_of builds path) && (stamp_of state path == 0)

-- the position of the first such input of an edge
abbrev pub lacking : List BuildValue → State → ℕ → Option ℕ
lacking builds state edge = position (is_lacking builds state) (inputs_of (build_at builds edge))

-- an edge reaches itself through producers of inputs
abbrev pub is_on_cycle : List BuildValue → State → ℕ → Bool
is_on_cycle builds state edge = leads_to (edges_by (input_paths state) builds) (nat_eq edge) edge

-- Why a plan is refused. These are asked for in this order.
pub data PlanRefusal : Type 0 where
  StillRunning : ℕ → PlanRefusal
  UnknownTarget : ℕ → PlanRefusal
  MissingInput : (position edge : ℕ) → PlanRefusal
  DepsCycle : ℕ → PlanRefusal

-- the least running edge
abbrev pub still_running : List BuildValue → State → Option PlanRefusal
still_running builds state = option_map StillRunning (find (is_running state) (edge_numbers builds))

-- the first target that stands on no build line
abbrev pub unknown_target : List BuildValue → List (List ℕ) → Option PlanRefusal
unknown_target builds targets = option_map UnknownTarget (position (λ path. not (is_known builds path)) targets)

abbrev pub lacking_at : List BuildValue → State → Option ℕ → Option PlanRefusal
lacking_at builds state None = None
lacking_at builds state (Some edge) = option_map (λ at. MissingInput at edge) (lacking builds state edge)

-- the least edge of some that lacks an input, and the first that it lacks
abbrev pub missing_among : List BuildValue → State → (ℕ → Bool) → Option PlanRefusal
missing_among builds state test =
    lacking_at builds state (find (λ edge. test edge && is_some (lacking builds state edge)) (edge_numbers builds))

-- of the reached edges
abbrev pub missing_input : List BuildValue → State → List ℕ → Option PlanRefusal
missing_input builds state roots = missing_among builds state (is_reached builds state roots)

-- the least reached edge on a cycle
abbrev pub deps_cycle : List BuildValue → State → List ℕ → Option PlanRefusal
deps_cycle builds state roots =
    option_map DepsCycle (find (λ edge. is_reached builds state roots edge && is_on_cycle builds state edge)
    (edge_numbers builds))

-- what the edges that the roots need lack: the first of these
unfoldable pub needs_refusal : List BuildValue → State → List ℕ → Option PlanRefusal
needs_refusal builds state roots = first_some (missing_input builds state roots ∷ deps_cycle builds state roots ∷ [])

-- why there is no plan: the first of these
unfoldable pub plan_refusal : ManifestValue → State → List (List ℕ) → Option PlanRefusal
plan_refusal manifest state targets =
    let all = targets_or manifest.defaults targets in
    let roots = producers_in manifest.builds all in
    first_some (still_running manifest.builds state ∷ unknown_target manifest.builds all
    ∷ missing_input manifest.builds state roots ∷ deps_cycle manifest.builds state roots ∷ [])
