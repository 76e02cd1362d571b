use Rattle.std.proofs.Common.{◌<◌, length, arith}
use Rattle.rev_accesses.specs.Users.{listed}
use Rattle.rev_accesses.proofs.PlaceLemmas.{nearest_next}
use Rattle.rev_accesses.proofs.index.nearest.Goals as goal

pub loop-place-preserved : goal.loop-place-preserved
loop-place-preserved c =
    let lt : c.loop-place.place-index < length c.args.places.now = omega (arith, c.loop-place-test.true) in
    nearest_next c.args.places.now c.loop-place.place-index 0 lt c.args.number (listed c.args.access c.args.index.now) c.loop-place.least c.first_at.result c.lesser-least.result _
    c.lesser-least.ensures c.first_at.ensures c.loop-place.invariant
