-- The step of a build: why an event is refused in a state, and else the state after it.
use Rattle.std.specs.Prelude.{ℕ, true, false, List, [], ◌∷◌, ◌++◌, Option, Some, None}
use Rattle.std.specs.Option.{option_map}
use Rattle.rev_causal.specs.Store.{set_cells}
use Rattle.rev_cells.specs.declared.cell.Cell.TheVariants as cell
use Rattle.rev_cells.specs.declared.mark.Mark.{Mark}
use Rattle.rev_cells.specs.declared.mark.Mark.TheVariants as mark
use Rattle.rev_cells.specs.declared.value.Value.TheVariants as value
use Rattle.rev_cells.specs.Keys.{cell_cmp}
use Rattle.rev_cells.specs.State.{State, is_halted}
use Rattle.rev_manifest.specs.Manifest.{ManifestValue}
use Rattle.rev_graph.specs.Graph.{producer_of}
use Rattle.rev_plan.specs.Plan.{plan_refusal, marks_of, edge_numbers}
use Rattle.rev_events.specs.declared.event.Event.{Event}
use Rattle.rev_events.specs.declared.event.Event.TheVariants.{Plan, Start, Finish, Fail, Abort, Clean, Pass, Touch, Interrupt, Resize}
use Rattle.rev_events.specs.declared.refusal.Refusal.{Refusal}
use Rattle.rev_events.specs.declared.refusal.Refusal.TheVariants.{NoSuchEdge}
use Rattle.rev_events.specs.Refusal.{of_plan, already_halted}
use Rattle.rev_events.specs.Edge.{Effect, write}
use Rattle.rev_events.specs.Kinds.{start_refusal, start_effect, clean_refusal, clean_effect, pass_refusal, pass_effect, finish_refusal, finish_effect, fail_refusal, abort_refusal, end_effect, resize_refusal, resize_effect}

-- what is said of an edge, where there is one
abbrev pub of_edge : {A : Type 0} → A → (ℕ → A) → Option ℕ → A
of_edge none by None = none
of_edge none by (Some edge) = by edge

abbrev pub write_marks : List ℕ → List Mark → Effect
write_marks [] marks = []
write_marks (edge ∷ edges) [] = []
write_marks (edge ∷ edges) (m ∷ marks) = write (cell.Mark edge) (value.Mark m) ∷ write_marks edges marks

module _ (manifest : ManifestValue) where
  -- the edge that an event names by an output
  abbrev pub edge_of : List ℕ → Option ℕ
  edge_of out = producer_of manifest.builds out

  -- why an event is refused in a state: the first refusal in the stated order
  unfoldable pub refusal : ℕ → State → Event → Option Refusal
  refusal jobs s (Plan targets) = option_map of_plan (plan_refusal manifest s targets)
  refusal jobs s (Start out job slot) =
      of_edge (Some NoSuchEdge) (λ edge. start_refusal manifest jobs edge job slot s) (edge_of out)
  refusal jobs s (Finish out stamps listing) =
      of_edge (Some NoSuchEdge) (λ edge. finish_refusal manifest edge stamps listing s) (edge_of out)
  refusal jobs s (Fail out stamps) =
      of_edge (Some NoSuchEdge) (λ edge. fail_refusal manifest edge stamps s) (edge_of out)
  refusal jobs s (Abort out stamps) =
      of_edge (Some NoSuchEdge) (λ edge. abort_refusal manifest edge stamps s) (edge_of out)
  refusal jobs s (Clean out) = of_edge (Some NoSuchEdge) (λ edge. clean_refusal manifest edge s) (edge_of out)
  refusal jobs s (Pass out) = of_edge (Some NoSuchEdge) (λ edge. pass_refusal manifest edge s) (edge_of out)
  refusal jobs s (Touch path stamp) = None
  refusal jobs s Interrupt = already_halted (is_halted s)
  refusal jobs s (Resize pool depth) = resize_refusal manifest pool depth s

  -- the cells that it writes, with what they then hold
  unfoldable pub effect : State → Event → Effect
  effect s (Plan targets) =
      write_marks (edge_numbers manifest.builds) (marks_of manifest s targets) ++ write cell.Halted (value.Halted false)
      ∷ []
  effect s (Start out job slot) = of_edge [] (λ edge. start_effect manifest edge job slot s) (edge_of out)
  effect s (Finish out stamps listing) = of_edge [] (λ edge. finish_effect manifest edge stamps listing s) (edge_of out)
  effect s (Fail out stamps) = of_edge [] (λ edge. end_effect manifest edge stamps mark.Failed s) (edge_of out)
  effect s (Abort out stamps) = of_edge [] (λ edge. end_effect manifest edge stamps mark.Stopped s) (edge_of out)
  effect s (Clean out) = of_edge [] (λ edge. clean_effect manifest edge s) (edge_of out)
  effect s (Pass out) = of_edge [] (λ edge. pass_effect manifest edge s) (edge_of out)
  effect s (Touch path stamp) = write (cell.Stamp path) (value.Stamp stamp) ∷ []
  effect s Interrupt = write cell.Halted (value.Halted true) ∷ []
  effect s (Resize pool depth) = resize_effect manifest pool depth

-- the state after an event: every cell that it does not write keeps its value
abbrev pub after : ManifestValue → State → Event → State
after manifest s e = set_cells cell_cmp s (effect manifest s e)
