use Rattle.std.proofs.Common.{sym}
use Rattle.rev_suspects.proofs.PastLemmas.{past-more, past-same}
use Rattle.rev_suspects.proofs.past.follow.Goals as goal

pub returns-in_default : goal.returns-in_default
returns-in_default c = λ ks before. past-same c.args.history.now.timeline c.args.past.now.timeline ks c.args.number (sym c.in_default.ensures) before

pub returns : goal.returns
returns c = λ ks before.
    past-more c.args.history.now.timeline c.args.past.now.timeline c.accept_next.new.past.timeline ks c.args.number c.in-Some.event.now (sym c.in-Some.ensures)
    c.in_ok-accept_next.ensures.manifest c.in_ok-accept_next.ensures.jobs c.in_ok-accept_next.ensures.state before
