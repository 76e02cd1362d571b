use Rattle.std.proofs.Common.{◌<◌, length, sym, ◌∙◌, arith}
use Rattle.rev_causal.specs.Store.{among}
use Rattle.rev_cells.specs.Keys.{cell_cmp}
use Rattle.rev_held.proofs.CellLemmas.{set-has}
use Rattle.rev_held.proofs.NameLemmas.{found-here, found-later}
use Rattle.rev_held.proofs.several.first_named.Goals as goal

pub returns-then-contains : goal.returns-then-contains
returns-then-contains c =
    let within : c.loop-index.index < length c.args.cells.now = omega (arith, c.loop-index-test.true, c.len-index-end.ensures) in
    found-here (among cell_cmp c.args.set.now.keys) c.args.cells.now c.loop-index.index c.at-cell.result.now within c.at-cell.ensures
    (sym (set-has c.args.set.now.keys c.at-cell.result.now) ∙ sym c.contains.ensures ∙ c.if-contains.true) c.loop-index.invariant

pub loop-index-preserved : goal.loop-index-preserved
loop-index-preserved c =
    let within : c.loop-index.index < length c.args.cells.now = omega (arith, c.loop-index-test.true, c.len-index-end.ensures) in
    found-later (among cell_cmp c.args.set.now.keys) c.args.cells.now c.loop-index.index c.at-cell.result.now within c.at-cell.ensures
    (sym (set-has c.args.set.now.keys c.at-cell.result.now) ∙ sym c.contains.ensures ∙ c.if-contains.false) c.loop-index.invariant
