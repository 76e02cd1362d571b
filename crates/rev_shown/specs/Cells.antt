-- Cells in words.
use Rattle.std.specs.Prelude.{ℕ, List, ◌++◌, Option, Some, None, codes, decimal, slice_get}
use Rattle.rev_manifest.specs.Manifest.{BuildValue}
use Rattle.rev_graph.specs.Graph.{build_at, outputs_of}
use Rattle.rev_cells.specs.declared.cell.Cell.{Cell}
use Rattle.rev_cells.specs.declared.cell.Cell.TheVariants as cell
use Rattle.rev_shown.specs.Shown.{shown}

-- the first output of an edge: of the explicit ones, or where there is none of the implicit ones
abbrev pub first_output : List BuildValue → ℕ → Option (List ℕ)
first_output builds edge = slice_get (outputs_of (build_at builds edge)) 0

-- a mark by the first output of its edge
abbrev pub mark_words : Option (List ℕ) → List ℕ
mark_words (Some out) = codes "the mark of " ++ shown out
mark_words None = codes "a mark"

-- a stamp by its file alone
abbrev pub cell_words : List BuildValue → Cell → List ℕ
cell_words builds (cell.Stamp path) = shown path
cell_words builds (cell.Mark edge) = mark_words (first_output builds edge)
cell_words builds (cell.Job job) = codes "job " ++ decimal job
cell_words builds (cell.Slot pool place) = codes "slot " ++ decimal place ++ codes " of pool " ++ decimal pool
cell_words builds (cell.Depth pool) = codes "the depth of pool " ++ decimal pool
cell_words builds (cell.Built path) = codes "the build log's record of " ++ shown path
cell_words builds (cell.Deps path) = codes "the list of what " ++ shown path ++ codes " read"
cell_words builds cell.Halted = codes "the interrupt"
