use Rattle.std.proofs.Common.{◌≡◌, take}
use Rattle.rev_listing.specs.Listing.{told}
use Rattle.rev_listing.specs.Stamps.{stamp_text}
use Rattle.rev_listing.proofs.LineLemmas.{cells_of}
use Rattle.rev_listing.proofs.stamps.stamps_text.Given as goal

-- the lines of the cells so far
abbrev pub invariant-loop-cell : goal.invariant-loop-cell
invariant-loop-cell l = l.text.items ≡ told stamp_text l.cells.state (cells_of (take l.cell-index l.cell-items))
