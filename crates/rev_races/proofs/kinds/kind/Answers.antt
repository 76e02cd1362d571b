use Rattle.std.proofs.Common.{◌<◌, length, true, false, sym, ◌∙◌, arith}
use Rattle.rev_races.proofs.AnswerLemmas.{mark-at}
use Rattle.rev_races.proofs.KindLemmas.{kind-cycle, kind-race, marked-waits}
use Rattle.rev_races.proofs.kinds.kind.Goals as goal

pub returns-then-waited-told : goal.returns-then-waited-told
returns-then-waited-told c =
    let builds = c.args.graph.now.manifest.builds in
    let told = c.args.told.now in
    let within : c.args.told.now.user < length c.args.waited.now = omega (arith, c.requires.between.user, c.requires.waited.each) in
    sym (kind-cycle builds told.user told.maker c.if-told.false
    (sym (marked-waits builds told.maker told.user c.args.waited.now c.requires.waited) ∙ mark-at c.args.waited.now told.user _ true within c.if-waited-told.true))

pub returns : goal.returns
returns c =
    let builds = c.args.graph.now.manifest.builds in
    let told = c.args.told.now in
    let within : c.args.told.now.user < length c.args.waited.now = omega (arith, c.requires.between.user, c.requires.waited.each) in
    sym (kind-race builds told.user told.maker c.if-told.false
    (sym (marked-waits builds told.maker told.user c.args.waited.now c.requires.waited) ∙ mark-at c.args.waited.now told.user _ false within c.if-waited-told.false))
