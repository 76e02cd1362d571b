use Rattle.std.proofs.Common.{◌<◌, ℕ, length, get_or, take, arith}
use Rattle.std.proofs.lemmas.List.{take_more}
use Rattle.rev_ranks.proofs.Ways.{nodes_are}
use Rattle.rev_ranks.proofs.ReversedLemmas.{adding-of, adds-more, pushed}
use Rattle.rev_ranks.proofs.searches.push_back_steps.Goals as goal

pub loop-next-preserved : goal.loop-next-preserved
loop-next-preserved c =
    let at : ℕ = get_or c.args.nexts.now c.loop-next.next-index 0 in
    let within : at < length c.loop-next.reversed.items =
    omega (arith, c.requires c.loop-next.next-index 0 c.loop-next-test.true, c.loop-next.invariant.length_is, nodes_are c.loop-next.reversed.items, nodes_are c.args.reversed.now.items, c.args.reversed.now.ok.0) in
    adding-of c.args.node _ _ _ _ (take_more c.args.nexts.now c.loop-next.next-index 0 c.loop-next-test.true)
    (adds-more c.args.node at (take c.loop-next.next-index c.args.nexts.now) _ _ _ c.loop-next.invariant
    (pushed c.loop-next.reversed.items c.args.node at c.index_mut-list.result.now c.push.new.self within c.index_mut-list.ensures.value c.in_ok-push.ensures.items))
