-- What a running edge holds.
use Rattle.std.specs.Prelude.{ℕ, List, [], ◌∷◌, Option, Some, None}
use Rattle.rev_cells.specs.declared.cell.Cell.{Cell}
use Rattle.rev_cells.specs.declared.cell.Cell.TheVariants as cell
use Rattle.rev_cells.specs.declared.mark.Mark.{Mark}
use Rattle.rev_cells.specs.declared.mark.Mark.TheVariants as mark
use Rattle.rev_events.specs.Edge.{slot_cells}

-- the job of an edge, and its place in its pool, while its command runs
abbrev pub run_in : Mark → Option (ℕ × Option ℕ)
run_in (mark.Running job slot seen) = Some (job, slot)
run_in _ = None

abbrev pub held_by : Option (ℕ × ℕ) → Option (ℕ × Option ℕ) → List Cell
held_by pool None = []
held_by pool (Some run) = cell.Job run.0 ∷ slot_cells pool run.1
