-- Edges that Ninja runs in each build.
use Rattle.std.specs.Prelude.{ℕ, ◌==◌, Bool, true, not, ◌&&◌, ◌||◌, List, [], map, length}
use Rattle.std.specs.List.{list_any, range_with_len}
use Rattle.rev_cells.specs.State.{State, stamp_of}
use Rattle.rev_manifest.specs.Manifest.{BuildValue}
use Rattle.rev_graph.specs.Graph.{build_at, outputs_of}
use Rattle.rev_unlisted.specs.Follows.{follow_lists}

abbrev pub lacks : State → List ℕ → Bool
lacks state output = stamp_of state output == 0

abbrev pub lacks_inputs : BuildValue → Bool
lacks_inputs build = (length build.explicit == 0) && (length build.implicit == 0) && (length build.order_only == 0)

-- An output of the edge is not there, so Ninja finds the edge to do by itself. Of a phony edge that is so only where it
-- has no inputs: a phony edge with inputs stands for these.
abbrev pub is_never_done : State → BuildValue → Bool
is_never_done state build =
    list_any (lacks state) (outputs_of build) && (not build.phony || lacks_inputs build)

abbrev pub never_done_in : List BuildValue → State → List Bool
never_done_in builds state =
    map (λ edge. is_never_done state (build_at builds edge)) (range_with_len 0 (length builds))

-- by which Ninja comes from an edge to those that make what counts for it, past no other edge with restat
abbrev pub sure_lists : List BuildValue → List (List (List ℕ)) → List (List ℕ)
sure_lists builds lists = follow_lists builds lists [] true
