-- The cells that an event writes, in the order of its effect.
use Rattle.std.specs.Prelude.{ℕ, List, [], ◌∷◌, ◌++◌, map, Option}
use Rattle.rev_manifest.specs.Manifest.{BuildValue, ManifestValue}
use Rattle.rev_graph.specs.Graph.{build_at, outputs_of, pool_of}
use Rattle.rev_cells.specs.declared.cell.Cell.{Cell}
use Rattle.rev_cells.specs.declared.cell.Cell.TheVariants as cell
use Rattle.rev_cells.specs.State.{State, mark_of}
use Rattle.rev_plan.specs.Plan.{edge_numbers}
use Rattle.rev_events.specs.declared.event.Event.{Event}
use Rattle.rev_events.specs.declared.event.Event.TheVariants.{Plan, Start, Finish, Fail, Abort, Clean, Pass, Touch, Interrupt, Resize}
use Rattle.rev_dirty.specs.Seen.{stamp_cells, built_cells, deps_cells}
use Rattle.rev_events.specs.Edge.{slot_cells, held_cells}
use Rattle.rev_events.specs.Machine.{edge_of, of_edge}

module _ (manifest : ManifestValue) where
  abbrev build : ℕ → BuildValue
  build edge = build_at manifest.builds edge

  unfoldable pub start_writes : ℕ → ℕ → Option ℕ → State → List Cell
  start_writes edge job slot state = cell.Mark edge ∷ cell.Job job ∷ slot_cells (pool_of manifest edge) slot

  -- Clean and Pass write the mark alone
  unfoldable pub mark_writes : ℕ → State → List Cell
  mark_writes edge state = cell.Mark edge ∷ []

  unfoldable pub finish_writes : ℕ → State → List Cell
  finish_writes edge state =
      cell.Mark edge ∷ held_cells (pool_of manifest edge) (mark_of state edge)
      ++ (stamp_cells (outputs_of (build edge)) ++ (built_cells (outputs_of (build edge)) ++ deps_cells (build edge)))

  -- Fail and Abort write the mark, what the edge held, and the stamps
  unfoldable pub end_writes : ℕ → State → List Cell
  end_writes edge state =
      cell.Mark edge ∷ held_cells (pool_of manifest edge) (mark_of state edge) ++ stamp_cells (outputs_of (build edge))

  unfoldable pub written : State → Event → List Cell
  written s (Plan targets) = map cell.Mark (edge_numbers manifest.builds) ++ cell.Halted ∷ []
  written s (Start out job slot) = of_edge [] (λ edge. start_writes edge job slot s) (edge_of manifest out)
  written s (Finish out stamps listing) = of_edge [] (λ edge. finish_writes edge s) (edge_of manifest out)
  written s (Fail out stamps) = of_edge [] (λ edge. end_writes edge s) (edge_of manifest out)
  written s (Abort out stamps) = of_edge [] (λ edge. end_writes edge s) (edge_of manifest out)
  written s (Clean out) = of_edge [] (λ edge. mark_writes edge s) (edge_of manifest out)
  written s (Pass out) = of_edge [] (λ edge. mark_writes edge s) (edge_of manifest out)
  written s (Touch path stamp) = cell.Stamp path ∷ []
  written s Interrupt = cell.Halted ∷ []
  written s (Resize pool depth) = cell.Depth pool ∷ []
