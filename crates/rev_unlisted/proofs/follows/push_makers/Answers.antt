use Rattle.std.proofs.Common.{sym, arith}
use Rattle.std.proofs.lemmas.List.{append-nil}
use Rattle.rev_unlisted.specs.Follows.{makers_of}
use Rattle.rev_unlisted.proofs.FollowLemmas.{grown, grown-all, makers-append}
use Rattle.rev_unlisted.proofs.follows.push_makers.Goals as goal

pub loop-name-init : goal.loop-name-init
loop-name-init c = sym (append-nil c.args.steps.now.items)

pub loop-name-preserved : goal.loop-name-preserved
loop-name-preserved c =
    grown (makers_of c.args.graph.now.manifest.builds c.args.sure) (makers-append c.args.graph.now.manifest.builds c.args.sure) c.args.names.now c.loop-name.name-index c.name-item.result c.args.steps.now.items
    c.loop-name.steps.items c.push_maker.new.steps.items c.loop-name-test.true c.name-item.is c.loop-name.invariant c.in_ok-push_maker.ensures

pub returns : goal.returns
returns c =
    grown-all (makers_of c.args.graph.now.manifest.builds c.args.sure) c.args.names.now c.loop-name.name-index c.args.steps.now.items c.loop-name.steps.items
    (omega (arith, c.loop-name-test.false, c.loop-name.auto.name-index-end)) c.loop-name.invariant
