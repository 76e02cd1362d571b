use Rattle.std.proofs.Common.{length, take, ◌-◌}
use Rattle.rev_listing.specs.Listing.{is_told}
use Rattle.rev_listing.proofs.CellLemmas.{AreThere}
use Rattle.rev_listing.proofs.nondefault_cells.cells_told.Given as goal

-- the cells of the places so far that are told
abbrev pub invariant-loop-place : goal.invariant-loop-place
invariant-loop-place l = AreThere (is_told l.kinds l.cells.state) (take l.place l.cells.places) l.there.entries

abbrev pub decreases-loop-place : goal.decreases-loop-place
decreases-loop-place l = length l.cells.places - l.place
