use Rattle.std.proofs.Common.{◌<◌, length, arith}
use Rattle.rev_accesses.specs.declared.users.Access.TheVariants.{Read, Write}
use Rattle.rev_accesses.specs.Users.{listed}
use Rattle.rev_accesses.proofs.PlaceLemmas.{users_next}
use Rattle.rev_accesses.proofs.index.add_users.Goals as goal

pub loop-place-preserved : goal.loop-place-preserved
loop-place-preserved c = λ k.
    let lt : c.loop-place.place-index < length c.args.places.now = omega (arith, c.loop-place-test.true) in
    users_next c.args.places.now c.loop-place.place-index 0 lt c.args.number (listed Write c.args.index.now) (listed Read c.args.index.now) k _ _ _ (c.in_ok-add_users_at.ensures k) (c.loop-place.invariant k)
