-- `built PATH N COMMAND` for each record of the build log, then `deps PATH N PATH...` for each of the deps log, in byte
-- order of the paths.
use Rattle.std.specs.Prelude.{ℕ, List, [], ◌∷◌, codes, decimal, map, Option, Some, None}
use Rattle.rev_cells.specs.declared.cell.Cell.{Cell}
use Rattle.rev_cells.specs.declared.cell.Cell.TheVariants as cell
use Rattle.rev_cells.specs.declared.value.BuiltRecord.{BuiltRecord}
use Rattle.rev_cells.specs.declared.value.DepsRecord.{DepsRecord}
use Rattle.rev_cells.specs.declared.value.Value.{Value}
use Rattle.rev_cells.specs.State.{State, built_in, deps_in}
use Rattle.rev_fields.specs.Fields.{field_text}
use Rattle.rev_listing.specs.Listing.{line, listed}

abbrev pub built_text : List ℕ → Option BuiltRecord → List ℕ
built_text path None = []
built_text path (Some r) = line (codes "built" ∷ field_text path ∷ decimal r.stamp ∷ field_text r.command ∷ [])

abbrev pub deps_text : List ℕ → Option DepsRecord → List ℕ
deps_text path None = []
deps_text path (Some r) = line (codes "deps" ∷ field_text path ∷ decimal r.stamp ∷ map field_text r.paths)

abbrev pub log_text : Cell → Value → List ℕ
log_text (cell.Built path) v = built_text path (built_in v)
log_text (cell.Deps path) v = deps_text path (deps_in v)
log_text _ v = []

abbrev pub logs_text : State → List ℕ
logs_text state = listed log_text state
