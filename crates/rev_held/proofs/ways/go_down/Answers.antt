use Rattle.std.proofs.Common.{◌+◌, drop, subst}
use Rattle.rev_held.specs.Firsts.{IsDown}
use Rattle.rev_held.proofs.DownLemmas.{next-one, none-left}
use Rattle.rev_held.proofs.ways.go_down.Goals as goal

pub loop-one-preserved : goal.loop-one-preserved
loop-one-preserved c n before =
    let t = c.args.history.now.timeline in
    c.in_ok-add_found.ensures n (drop (c.loop-one.one-index + 1) c.args.down.now)
    (subst (λ ones. IsDown t n ones c.loop-one.firsts c.loop-one.pairs.items) (next-one c.args.down.now c.loop-one.one-index c.loop-one-test.true) (c.loop-one.invariant n before))

pub returns : goal.returns
returns c n before =
    let t = c.args.history.now.timeline in
    subst (λ ones. IsDown t n ones c.loop-one.firsts c.loop-one.pairs.items) (none-left c.args.down.now c.loop-one.one-index c.loop-one-test.false) (c.loop-one.invariant n before)
