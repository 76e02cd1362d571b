use Rattle.std.proofs.Common.{◌<◌, ◌≤◌, length, ap, ◌∙◌, arith}
use Rattle.std.specs.Option.{option_copied}
use Rattle.rev_held.specs.Firsts.{later_of}
use Rattle.rev_held.proofs.FirstLemmas.{latest-all, latest-next, latest-none}
use Rattle.rev_held.proofs.firsts.latest_at.Goals as goal

pub loop-index-init : goal.loop-index-init
loop-index-init c p q others falls is under = latest-none p q others c.args.cells.now c.args.found is

pub loop-index-preserved : goal.loop-index-preserved
loop-index-preserved c p q others falls is under =
    let within : c.loop-index.index < length c.args.cells.now = omega (arith, c.loop-index-test.true, c.len-index-end.ensures) in
    latest-next p q others c.args.cells.now c.loop-index.index c.at.result.now c.loop-index.latest (option_copied c.get.result) c.later-latest.result falls within c.at.ensures
    (c.later-latest.ensures ∙ ap (later_of c.loop-index.latest) c.copied.ensures) (c.get.ensures.value ∙ under c.at.result.now) (c.loop-index.invariant p q others falls is under)

pub returns : goal.returns
returns c p q others falls is under =
    let past : length c.args.cells.now ≤ c.loop-index.index = omega (arith, c.loop-index-test.false, c.len-index-end.ensures) in
    latest-all p q others c.args.cells.now c.loop-index.index c.loop-index.latest past (c.loop-index.invariant p q others falls is under)
