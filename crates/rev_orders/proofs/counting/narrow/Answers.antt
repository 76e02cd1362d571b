use Rattle.std.proofs.Common.{◌&&◌, arith}
use Rattle.rev_ranks.specs.Sets.{is_marked}
use Rattle.rev_orders.specs.Pairs.{is_before}
use Rattle.rev_orders.proofs.Rows.{count_within}
use Rattle.rev_orders.proofs.counting.narrow.Goals as goal

pub one_more-left-requires : goal.one_more-left-requires
one_more-left-requires c =
    omega (arith, c.loop-other.invariant.left_is, count_within (λ j. is_marked c.args.row.now j && is_before c.args.nodes.now c.args.place c.args.places.now j) c.loop-other.other, c.loop-other-test.true, c.ranges.place.fits)
