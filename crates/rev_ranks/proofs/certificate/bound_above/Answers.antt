use Rattle.std.proofs.Common.{◌≡◌, ◌<◌, get_or, take, subst, sym, arith}
use Rattle.std.specs.List.{All}
use Rattle.std.proofs.lemmas.List.{take_all}
use Rattle.rev_ranks.proofs.Certificates.{bounded_more, front_bounded}
use Rattle.rev_ranks.proofs.certificate.bound_above.Goals as goal
use Rattle.rev_ranks.proofs.certificate.bound_above.Goals.{then-bound-number, else-bound-number}

pub loop-node-preserved : goal.loop-node-preserved
loop-node-preserved c =
    elim c.if-bound-number.branch [
      | then-bound-number w ↦ record {
        above = bounded_more c.args.numbers.now c.args.nodes.now c.loop-node.node-index c.loop-node.bound c.if-bound-number.bound c.loop-node-test.true c.loop-node.invariant.above (omega arith) (omega arith);
        least = λ b all. let front = front_bounded c.args.numbers.now c.args.nodes.now c.loop-node.node-index b c.loop-node-test.true all in omega (arith, front.1);
      }
      | else-bound-number w ↦ record {
        above = bounded_more c.args.numbers.now c.args.nodes.now c.loop-node.node-index c.loop-node.bound c.if-bound-number.bound c.loop-node-test.true c.loop-node.invariant.above (omega arith) (omega arith);
        least = λ b all. let front = front_bounded c.args.numbers.now c.args.nodes.now c.loop-node.node-index b c.loop-node-test.true all in omega (arith, c.loop-node.invariant.least b front.0);
      }
    ]

pub returns : goal.returns
returns c =
    let all : take c.loop-node.node-index c.args.nodes.now ≡ c.args.nodes.now = take_all c.loop-node.node-index c.args.nodes.now c.loop-node-test.false in
    record {
      above = subst (All (λ s. get_or c.args.numbers.now s 0 < c.loop-node.bound)) all c.loop-node.invariant.above;
      least = λ b h. c.loop-node.invariant.least b (subst (All (λ s. get_or c.args.numbers.now s 0 < b)) (sym all) h);
    }
