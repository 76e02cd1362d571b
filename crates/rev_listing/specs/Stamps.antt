-- `stamp PATH N` for each file that is not missing, in byte order of the paths.
use Rattle.std.specs.Prelude.{ℕ, List, [], ◌∷◌, codes, decimal}
use Rattle.rev_cells.specs.declared.cell.Cell.{Cell}
use Rattle.rev_cells.specs.declared.cell.Cell.TheVariants as cell
use Rattle.rev_cells.specs.declared.value.Value.{Value}
use Rattle.rev_cells.specs.State.{State, stamp_in}
use Rattle.rev_fields.specs.Fields.{field_text}
use Rattle.rev_listing.specs.Listing.{line, listed}

abbrev pub stamp_text : Cell → Value → List ℕ
stamp_text (cell.Stamp path) v = line (codes "stamp" ∷ field_text path ∷ decimal (stamp_in v) ∷ [])
stamp_text _ v = []

abbrev pub stamps_text : State → List ℕ
stamps_text state = listed stamp_text state
