-- The steps of edges as the code holds them.
use Rattle.std.specs.Prelude.{◌≡◌, ℕ, Bool, ◌&&◌, List, [], ◌++◌, length, if◌then◌else◌}
use Rattle.rev_manifest.specs.Manifest.{BuildValue}
use Rattle.rev_dirty.specs.Inputs.{paths_in, deps_record, producers_in}
use Rattle.rev_cells.specs.State.{State}
use Rattle.rev_cells.specs.declared.mark.Mark.{Mark}
use Rattle.rev_cells.specs.declared.mark.Mark.TheVariants as mark
use Rattle.rev_ranks.specs.Graph.{successors_of, Steps}
use Rattle.rev_ranks.specs.Sets.{IsMarked, is_marked}
use Rattle.rev_plan.specs.declared.steps.Along.{Along}
use Rattle.rev_plan.specs.declared.steps.Along.TheVariants.{Inputs, Counted, Needs}
use Rattle.rev_plan.specs.Plan.{input_paths, counted_paths, needed_paths, edges_by, is_dirty, is_reached}

-- the paths by which edges step
abbrev pub paths_along : Along → State → BuildValue → List (List ℕ)
paths_along Inputs state = input_paths state
paths_along Counted state = counted_paths state
paths_along Needs state = needed_paths state

-- the order-only inputs, where edges step along these, and the validations
abbrev pub order_only_of : {A : Type 0} → Along → List A → List A
order_only_of Counted order_only = []
order_only_of Inputs order_only = order_only
order_only_of Needs order_only = order_only

abbrev pub validations_of : Along → BuildValue → List (List ℕ)
validations_of Needs build = build.validations
validations_of Inputs build = []
validations_of Counted build = []

-- the paths that an edge's deps record lists
abbrev pub listed_paths : State → BuildValue → List (List ℕ)
listed_paths state build = paths_in (deps_record state build)

-- The lists have for each edge the edges that produce what its deps record lists in a state.
pub record AreListed (builds : List BuildValue) (state : State) (lists : List (List ℕ)) : Type 0 where
  pub are : lists ≡ edges_by (listed_paths state) builds

-- the edges that an edge steps to, where `listed` produce what its deps record lists
abbrev pub steps_with : Along → List BuildValue → List ℕ → BuildValue → List ℕ
steps_with along builds listed build =
    producers_in builds (build.explicit ++ build.implicit) ++ producers_in builds (order_only_of along build.order_only)
    ++ listed ++ producers_in builds (validations_of along build)

-- A graph without the steps of the nodes that have no mark.
pub record IsSubgraph (graph : List (List ℕ)) (marks : List Bool) (sub : List (List ℕ)) : Type 0 where
  pub length_is : length sub ≡ length graph
  pub kept : (n : ℕ) → IsMarked marks n → successors_of sub n ≡ successors_of graph n
  pub left_out : (n s : ℕ) → Steps sub n s → IsMarked marks n

-- exactly the reached edges that are dirty have a mark
pub record AreDirty (builds : List BuildValue) (state : State) (reached dirty : List Bool) : Type 0 where
  pub length_is : length dirty ≡ length builds
  pub exact : (edge : ℕ) → is_marked dirty edge ≡ (is_marked reached edge && is_dirty builds state edge)

-- exactly the reached edges have a mark
pub record AreReached (builds : List BuildValue) (state : State) (roots : List ℕ) (reached : List Bool) : Type 0 where
  pub length_is : length reached ≡ length builds
  pub exact : (edge : ℕ) → is_marked reached edge ≡ is_reached builds state roots edge

-- the mark of an edge, by those that are wanted and those that wait for some
abbrev pub mark_by : List Bool → List Bool → ℕ → Mark
mark_by wanted waiting edge =
    if is_marked wanted edge then mark.Wanted else if is_marked waiting edge then mark.Through else mark.Idle
