use Rattle.std.proofs.Common.{◌≡◌, take}
use Rattle.rev_listing.specs.Listing.{told}
use Rattle.rev_listing.specs.Marks.{mark_text}
use Rattle.rev_listing.proofs.LineLemmas.{cells_of}
use Rattle.rev_listing.proofs.marks.marks_text.Given as goal

-- the lines of the cells so far
abbrev pub invariant-loop-cell : goal.invariant-loop-cell
invariant-loop-cell l = l.text.items ≡ told (mark_text l.graph.manifest.builds) l.cells.state (cells_of (take l.cell-index l.cell-items))
