-- `mark E OUT WORD` for each edge that is not Idle, then `job J E` and `slot POOL S E` for what is held, then
-- `depth POOL N` for each pool that was given a depth, in rising numbers, then `halted`.
use Rattle.std.specs.Prelude.{ℕ, Bool, List, [], ◌∷◌, codes, decimal, Option, Some, None, if◌then◌else◌}
use Rattle.std.specs.List.{slice_index_or}
use Rattle.rev_cells.specs.declared.cell.Cell.{Cell}
use Rattle.rev_cells.specs.declared.cell.Cell.TheVariants as cell
use Rattle.rev_cells.specs.declared.mark.Mark.{Mark}
use Rattle.rev_cells.specs.declared.mark.Mark.TheVariants as mark
use Rattle.rev_cells.specs.declared.value.Value.{Value}
use Rattle.rev_cells.specs.State.{State, mark_in, job_in, slot_in, depth_in, halted_in}
use Rattle.rev_manifest.specs.Manifest.{BuildValue}
use Rattle.rev_graph.specs.Graph.{build_at, outputs_of}
use Rattle.rev_fields.specs.Fields.{field_text}
use Rattle.rev_fields.specs.Numbers.{numbers_text}
use Rattle.rev_listing.specs.Listing.{line, listed}

-- an edge is told by its first output
abbrev pub output_field : List BuildValue → ℕ → List ℕ
output_field builds edge = field_text (slice_index_or (outputs_of (build_at builds edge)) 0 [])

-- a number, or a dash where there is none
abbrev pub number_or_dash : Option ℕ → List ℕ
number_or_dash None = codes "-"
number_or_dash (Some n) = decimal n

-- positions with commas between them, or a dash where there is none
abbrev pub numbers_or_dash : List ℕ → List ℕ
numbers_or_dash [] = codes "-"
numbers_or_dash (n ∷ ns) = numbers_text (n ∷ ns)

abbrev pub mark_fields : Mark → List (List ℕ)
mark_fields mark.Idle = codes "idle" ∷ []
mark_fields mark.Wanted = codes "wanted" ∷ []
mark_fields mark.Through = codes "through" ∷ []
mark_fields (mark.Running job slot seen) = codes "running" ∷ decimal job ∷ number_or_dash slot ∷ decimal seen ∷ []
mark_fields (mark.Done changed) = codes "done" ∷ numbers_or_dash changed ∷ []
mark_fields mark.Clean = codes "clean" ∷ []
mark_fields mark.Failed = codes "failed" ∷ []
mark_fields mark.Stopped = codes "stopped" ∷ []

abbrev pub job_text : ℕ → Option ℕ → List ℕ
job_text job None = []
job_text job (Some edge) = line (codes "job" ∷ decimal job ∷ decimal edge ∷ [])

abbrev pub slot_text : ℕ → ℕ → Option ℕ → List ℕ
slot_text pool place None = []
slot_text pool place (Some edge) = line (codes "slot" ∷ decimal pool ∷ decimal place ∷ decimal edge ∷ [])

abbrev pub depth_text : ℕ → Option ℕ → List ℕ
depth_text pool None = []
depth_text pool (Some depth) = line (codes "depth" ∷ decimal pool ∷ decimal depth ∷ [])

abbrev pub halted_text : Bool → List ℕ
halted_text halted = if halted then line (codes "halted" ∷ []) else []

abbrev pub mark_text : List BuildValue → Cell → Value → List ℕ
mark_text builds (cell.Mark edge) v =
    line (codes "mark" ∷ decimal edge ∷ output_field builds edge ∷ mark_fields (mark_in v))
mark_text builds (cell.Job job) v = job_text job (job_in v)
mark_text builds (cell.Slot pool place) v = slot_text pool place (slot_in v)
mark_text builds (cell.Depth pool) v = depth_text pool (depth_in v)
mark_text builds cell.Halted v = halted_text (halted_in v)
mark_text builds _ v = []

abbrev pub marks_text : List BuildValue → State → List ℕ
marks_text builds state = listed (mark_text builds) state
