-- What an event reads besides the cells that it writes.
use Rattle.std.specs.Prelude.{ℕ, List, [], ◌∷◌, map, Option, Some}
use Rattle.rev_manifest.specs.Manifest.{BuildValue, ManifestValue}
use Rattle.rev_graph.specs.Graph.{build_at, outputs_of, pool_of}
use Rattle.rev_cells.specs.declared.cell.Cell.{Cell}
use Rattle.rev_cells.specs.declared.cell.Cell.TheVariants as cell
use Rattle.rev_cells.specs.State.{State}
use Rattle.rev_dirty.specs.Inputs.{inputs}
use Rattle.rev_dirty.specs.Seen.{joined, reason_cells, producer_marks, stamp_cells, deps_cells}
use Rattle.rev_events.specs.declared.event.Event.{Event}
use Rattle.rev_events.specs.declared.event.Event.TheVariants.{Plan, Start, Finish, Fail, Abort, Clean, Pass, Touch, Interrupt, Resize}
use Rattle.rev_events.specs.Machine.{of_edge, edge_of}
use Rattle.rev_events.specs.Pools.{present_depth, slots_lost}

-- the depth of an edge's pool, where a slot of it is named
abbrev pub depth_cells : Option (ℕ × ℕ) → Option ℕ → List Cell
depth_cells (Some pool) (Some slot) = cell.Depth pool.0 ∷ []
depth_cells _ _ = []

module _ (manifest : ManifestValue) where
  abbrev build_of : ℕ → BuildValue
  build_of edge = build_at manifest.builds edge

  -- whether the build is halted, the depth of the pool whose slot is named, and what the reasons of the edge depend on:
  -- the marks of the producers of its inputs, the stamps that are seen of them, the stamps and built records of its
  -- outputs, and its deps record where it keeps one
  unfoldable pub start_reads : ℕ → Option ℕ → State → List Cell
  start_reads edge slot state =
      joined ((cell.Halted ∷ depth_cells (pool_of manifest edge) slot) ∷ reason_cells manifest.builds state edge)

  -- the same, but for the halt and the depth
  unfoldable pub clean_reads : ℕ → State → List Cell
  clean_reads edge state = joined (reason_cells manifest.builds state edge)

  -- no visible stamp: the marks of the producers of its inputs, the stamps of its outputs, its deps record where it
  -- keeps one
  unfoldable pub pass_reads : ℕ → State → List Cell
  pass_reads edge state =
      joined (producer_marks manifest.builds (inputs state (build_of edge)) ∷ stamp_cells (outputs_of (build_of edge))
      ∷ deps_cells (build_of edge) ∷ [])

  -- the slots that the pool loses
  unfoldable pub resize_reads : ℕ → ℕ → State → List Cell
  resize_reads pool depth state = map (cell.Slot pool) (slots_lost depth (present_depth manifest state pool))

  -- the cells that an event reads besides those that it writes; a plan reads every cell, and names none
  unfoldable pub reads_besides : State → Event → List Cell
  reads_besides s (Plan targets) = []
  reads_besides s (Start out job slot) = of_edge [] (λ edge. start_reads edge slot s) (edge_of manifest out)
  reads_besides s (Finish out stamps listing) = []
  reads_besides s (Fail out stamps) = []
  reads_besides s (Abort out stamps) = cell.Halted ∷ []
  reads_besides s (Clean out) = of_edge [] (λ edge. clean_reads edge s) (edge_of manifest out)
  reads_besides s (Pass out) = of_edge [] (λ edge. pass_reads edge s) (edge_of manifest out)
  reads_besides s (Touch path stamp) = []
  reads_besides s Interrupt = []
  reads_besides s (Resize pool depth) = resize_reads pool depth s
