use Rattle.std.proofs.Common.{◌≡◌, true, false, [], refl}
use Rattle.rev_cells.specs.declared.cell.Cell.{Cell}
use Rattle.rev_cells.specs.declared.cell.Cell.TheVariants as cell
use Rattle.rev_cells.specs.declared.value.Value.{Value}
use Rattle.rev_listing.specs.declared.nondefault_cells.Kinds.TheVariants as kinds
use Rattle.rev_listing.specs.Listing.{is_of}
use Rattle.rev_listing.specs.Logs.{log_text}
use Rattle.rev_listing.proofs.LineLemmas.{told-more, told-all}
use Rattle.rev_listing.proofs.logs.logs_text.Goals as goal

-- of no other cell anything is told
silent : (c : Cell) (v : Value) → is_of kinds.Logs c ≡ false → log_text c v ≡ []
silent (cell.Stamp path) v h = refl
silent (cell.Mark edge) v h = refl
silent (cell.Job job) v h = refl
silent (cell.Slot pool place) v h = refl
silent (cell.Depth pool) v h = refl
silent (cell.Built path) v h = let no : true ≡ false = h in cc
silent (cell.Deps path) v h = let no : true ≡ false = h in cc
silent cell.Halted v h = refl

pub loop-cell-preserved : goal.loop-cell-preserved
loop-cell-preserved c =
    told-more log_text c.args.cells.now.state c.deref-cell-items.result.now c.loop-cell.cell-index c.loop-cell-item.result c.loop-cell.text.items c.push_cell.new.text.items c.loop-cell-test.true c.loop-cell-item.is c.loop-cell.invariant c.in_ok-push_cell.ensures

pub returns : goal.returns
returns c =
    told-all log_text c.args.cells.now.state kinds.Logs silent c.deref-cell-items.result.now c.in_ok-there.there.items c.loop-cell.cell-index c.loop-cell.text.items c.loop-cell-test.false c.deref-cell-items.ensures.value c.in_ok-there.ensures c.loop-cell.invariant
