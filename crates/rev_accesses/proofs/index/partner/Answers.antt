use Rattle.std.proofs.Common.{◌<◌, length, arith}
use Rattle.rev_accesses.specs.Users.{listed}
use Rattle.rev_accesses.proofs.PlaceLemmas.{partner_next}
use Rattle.rev_accesses.proofs.index.partner.Goals as goal

pub loop-cell-preserved : goal.loop-cell-preserved
loop-cell-preserved c =
    let lt : c.loop-cell.cell-index < length c.args.cells.now = omega (arith, c.loop-cell-test.true) in
    partner_next c.args.cells.now c.loop-cell.cell-index 0 lt c.args.places.now c.args.number (listed c.args.access c.args.index.now) c.loop-cell.least c.partner_in.result c.lesser-least.result _
    c.lesser-least.ensures c.partner_in.ensures c.loop-cell.invariant
