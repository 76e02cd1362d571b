use Rattle.std.proofs.Common.{[], sym}
use Rattle.rev_held.proofs.FirstLemmas.{firsts-same}
use Rattle.rev_held.proofs.firsts.firsts_of.Goals as goal

pub returns-in_default : goal.returns-in_default
returns-in_default c =
    let t = c.args.history.now.timeline in
    firsts-same t c.args.number c.no_firsts-firsts.result (sym c.in_default.ensures) (c.no_firsts-firsts.ensures t)

pub returns : goal.returns
returns c =
    let t = c.args.history.now.timeline in
    c.in_ok-add.ensures t [] c.in-Some.ensures (c.no_firsts-firsts.ensures t)
