use Rattle.std.proofs.Common.{arith}
use Rattle.rev_ranks.specs.Sets.{is_marked}
use Rattle.rev_orders.proofs.Rows.{count_within}
use Rattle.rev_orders.proofs.counting.marks_of.Goals as goal

pub one_more-marks-requires : goal.one_more-marks-requires
one_more-marks-requires c = omega (arith, c.loop-place.invariant, count_within (is_marked c.args.row.now) c.loop-place.place, c.loop-place-test.true)
