use Rattle.std.proofs.Common.{◌<◌, length, arith}
use Rattle.rev_held.proofs.SeveralLemmas.{finds-more, finds-nothing}
use Rattle.rev_held.proofs.several.add_all.Goals as goal

pub loop-index-init : goal.loop-index-init
loop-index-init c before same = finds-nothing c.args.set.now.keys before c.args.cells.now same

pub loop-index-preserved : goal.loop-index-preserved
loop-index-preserved c before same =
    let within : c.loop-index.index < length c.args.cells.now = omega (arith, c.loop-index-test.true, c.len-index-end.ensures) in
    finds-more c.loop-index.set.keys c.insert.new.self.keys before c.args.cells.now c.loop-index.index c.at.result.now c.in_ok-copy.field-0 within c.at.ensures c.in_ok-copy.ensures
    c.in_ok-insert.ensures.keys (c.loop-index.invariant before same)
