use Rattle.std.proofs.Common.{◌<◌, length, arith}
use Rattle.rev_accesses.specs.declared.users.Access.TheVariants.{Write}
use Rattle.rev_accesses.specs.Users.{listed}
use Rattle.rev_accesses.proofs.PlaceLemmas.{firsts_next}
use Rattle.rev_accesses.proofs.index.add_firsts.Goals as goal

pub loop-place-preserved : goal.loop-place-preserved
loop-place-preserved c = λ k.
    let lt : c.loop-place.place-index < length c.args.places.now = omega (arith, c.loop-place-test.true) in
    firsts_next c.args.places.now c.loop-place.place-index 0 lt c.args.number (listed Write c.args.index.now) k _ _ _ (c.in_ok-add_first_at.ensures k) (c.loop-place.invariant k)
