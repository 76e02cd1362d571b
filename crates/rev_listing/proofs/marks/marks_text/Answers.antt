use Rattle.std.proofs.Common.{◌≡◌, true, false, List, [], refl}
use Rattle.rev_cells.specs.declared.cell.Cell.{Cell}
use Rattle.rev_cells.specs.declared.cell.Cell.TheVariants as cell
use Rattle.rev_cells.specs.declared.value.Value.{Value}
use Rattle.rev_manifest.specs.Manifest.{BuildValue}
use Rattle.rev_listing.specs.declared.nondefault_cells.Kinds.TheVariants as kinds
use Rattle.rev_listing.specs.Listing.{is_of}
use Rattle.rev_listing.specs.Marks.{mark_text}
use Rattle.rev_listing.proofs.LineLemmas.{told-more, told-all}
use Rattle.rev_listing.proofs.marks.marks_text.Goals as goal

-- of no other cell anything is told
silent : (builds : List BuildValue) (c : Cell) (v : Value) → is_of kinds.Marks c ≡ false → mark_text builds c v ≡ []
silent builds (cell.Stamp path) v h = refl
silent builds (cell.Mark edge) v h = let no : true ≡ false = h in cc
silent builds (cell.Job job) v h = let no : true ≡ false = h in cc
silent builds (cell.Slot pool place) v h = let no : true ≡ false = h in cc
silent builds (cell.Depth pool) v h = let no : true ≡ false = h in cc
silent builds (cell.Built path) v h = refl
silent builds (cell.Deps path) v h = refl
silent builds cell.Halted v h = let no : true ≡ false = h in cc

pub loop-cell-preserved : goal.loop-cell-preserved
loop-cell-preserved c =
    told-more (mark_text c.args.graph.now.manifest.builds) c.args.cells.now.state c.deref-cell-items.result.now c.loop-cell.cell-index c.loop-cell-item.result c.loop-cell.text.items c.push_cell.new.text.items c.loop-cell-test.true c.loop-cell-item.is c.loop-cell.invariant c.in_ok-push_cell.ensures

pub returns : goal.returns
returns c =
    told-all (mark_text c.args.graph.now.manifest.builds) c.args.cells.now.state kinds.Marks (silent c.args.graph.now.manifest.builds) c.deref-cell-items.result.now c.in_ok-there.there.items c.loop-cell.cell-index c.loop-cell.text.items c.loop-cell-test.false c.deref-cell-items.ensures.value c.in_ok-there.ensures c.loop-cell.invariant
