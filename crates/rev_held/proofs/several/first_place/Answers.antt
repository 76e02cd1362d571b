use Rattle.std.proofs.Common.{◌<◌, length, ◌∙◌, ap, arith}
use Rattle.rev_held.specs.Several.{earlier_of}
use Rattle.rev_held.proofs.SeveralLemmas.{place-first, place-next}
use Rattle.rev_held.proofs.several.first_place.Goals as goal

pub loop-index-init : goal.loop-index-init
loop-index-init c p is = place-first p c.args.set.now.keys c.args.cells.now c.args.place is

pub loop-index-preserved : goal.loop-index-preserved
loop-index-preserved c p is =
    let within : c.loop-index.index < length c.args.cells.now = omega (arith, c.loop-index-test.true, c.len-index-end.ensures) in
    place-next p c.args.set.now.keys c.args.cells.now c.loop-index.index c.loop-index.first c.earlier-first.result c.at.result.now within c.at.ensures
    (c.earlier-first.ensures ∙ ap (earlier_of c.loop-index.first) c.get_index_of.ensures.index) (c.loop-index.invariant p is)
