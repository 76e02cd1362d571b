-- The walk over the phony edges through which inputs are seen.
use Rattle.std.specs.Prelude.{◌≡◌, ℕ, zero, suc, ◌+◌, ◌==◌, ◌<◌, Bool, true, ◌||◌, List, [], ◌∷◌, map, length, Option, Some, None, is_some, unwrap_or, nat_eq, if◌then◌else◌}
use Rattle.std.specs.List.{Contains, filter_map, list_any, All, sum_by}
use Rattle.std.specs.Map.{lookup}
use Rattle.rev_manifest.specs.Manifest.{BuildValue}
use Rattle.rev_graph.specs.Graph.{build_at, rank_at}
use Rattle.rev_cells.specs.State.{State}
use Rattle.rev_dirty.specs.declared.input.Input.{Input}
use Rattle.rev_dirty.specs.declared.walk.Task.{Task}
use Rattle.rev_dirty.specs.declared.walk.Task.TheVariants.{Enter, Leave}
use Rattle.rev_dirty.specs.Facts.{seen_edge}
use Rattle.rev_dirty.specs.Visible.{greatest, line_inputs, visible_stamp}

-- what is known of an edge
abbrev pub known : List (ℕ × ℕ) → ℕ → Option ℕ
known entries edge = lookup (nat_eq edge) entries

-- what shows of an input, by what is known
abbrev pub shown_by : List (ℕ × ℕ) → Option ℕ → ℕ → ℕ
shown_by entries None stamp = stamp
shown_by entries (Some edge) stamp = unwrap_or (known entries edge) 0

abbrev pub shown : List (ℕ × ℕ) → Input → ℕ
shown entries input = shown_by entries input.through input.stamp

-- the greatest visible stamp of the inputs of an edge's build line
unfoldable pub shown_behind : List BuildValue → State → ℕ → ℕ
shown_behind builds state edge = greatest (map (visible_stamp builds state) (line_inputs (build_at builds edge)))

-- the phony edges through which an edge's inputs are seen
unfoldable pub needed : List BuildValue → State → ℕ → List ℕ
needed builds state edge = filter_map (seen_edge builds state) (line_inputs (build_at builds edge))

pub record IsPhonyEdge (builds : List BuildValue) (edge : ℕ) : Type 0 where
  pub is_edge : edge < length builds
  pub phony : (build_at builds edge).phony ≡ true

-- what is known are phony edges, each with the greatest visible stamp of its inputs
pub record IsKnowledge (builds : List BuildValue) (state : State) (entries : List (ℕ × ℕ)) : Type 0 where
  pub phony : (edge stamp : ℕ) → known entries edge ≡ Some stamp → IsPhonyEdge builds edge
  pub right : (edge stamp : ℕ) → known entries edge ≡ Some stamp → stamp ≡ shown_behind builds state edge

-- what is known after one more edge
abbrev pub IsAdded : List (ℕ × ℕ) → List (ℕ × ℕ) → ℕ → ℕ → Type 0
IsAdded entries later edge stamp =
    (other : ℕ) → known later other ≡ (if nat_eq edge other then Some stamp else known entries other)

abbrev pub edge_of : Task → ℕ
edge_of (Enter edge) = edge
edge_of (Leave edge) = edge

abbrev pub has_task : List Task → ℕ → Bool
has_task tasks edge = list_any (λ task. edge_of task == edge) tasks

-- an edge is known, or is about to be
abbrev pub is_covered : List (ℕ × ℕ) → List Task → ℕ → Bool
is_covered entries tasks edge = is_some (known entries edge) || has_task tasks edge

-- an edge is left only once all that it is seen through was: it is known, or stands above
abbrev pub IsReadyTask : List BuildValue → State → List (ℕ × ℕ) → Task → List Task → Type 0
IsReadyTask builds state entries (Enter edge) above = Unit {0}
IsReadyTask builds state entries (Leave edge) above =
    (other : ℕ) → Contains (needed builds state edge) other → is_covered entries above other ≡ true

-- the first task is done last
abbrev pub IsReady : List BuildValue → State → List (ℕ × ℕ) → List Task → Type 0
IsReady builds state entries [] = Unit {0}
IsReady builds state entries (task ∷ above) =
    IsReadyTask builds state entries task above × IsReady builds state entries above

-- What holds between two steps of the walk.
pub record IsWalk (builds : List BuildValue) (state : State) (entries : List (ℕ × ℕ)) (tasks : List Task) : Type 0 where
  pub knowledge : IsKnowledge builds state entries
  pub edges : All (λ task. IsPhonyEdge builds (edge_of task)) tasks
  pub ready : IsReady builds state entries tasks

-- The walk goes on: what was covered is.
abbrev pub GoesOn : List (ℕ × ℕ) → List Task → List (ℕ × ℕ) → List Task → Type 0
GoesOn entries tasks later_entries later =
    (edge : ℕ) → is_covered entries tasks edge ≡ true → is_covered later_entries later edge ≡ true

-- how many steps there are below an edge at most, through as many edges, one behind the other
abbrev pub work : List BuildValue → State → ℕ → ℕ → ℕ
work builds state zero edge = 1
work builds state (suc edges) edge = 2 + sum_by (work builds state edges) (needed builds state edge)

abbrev pub task_work : List BuildValue → State → List ℕ → Task → ℕ
task_work builds state ranks (Enter edge) = work builds state (suc (rank_at ranks edge)) edge
task_work builds state ranks (Leave edge) = 1

-- how many steps of the walk are left at most
unfoldable pub work_left : List BuildValue → State → List ℕ → List Task → ℕ
work_left builds state ranks tasks = sum_by (task_work builds state ranks) tasks
