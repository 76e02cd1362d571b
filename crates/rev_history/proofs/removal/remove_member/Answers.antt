use Rattle.rev_accesses.proofs.ThinnedLemmas.{are_thinned_not}
use Rattle.std.proofs.Common.{sym}
use Rattle.rev_history.proofs.RemovalLemmas.{nothing_beside, same_beside_number}
use Rattle.rev_history.proofs.removal.remove_member.Goals as goal

pub returns-in-Some-clause-gone : goal.returns-in-Some-clause-gone
returns-in-Some-clause-gone c = λ f at.
    same_beside_number c.args.number c.args.accepted.now.entries c.args.steps.now c.in-Some.step.now f c.remove_members.new.self c.in-Some.ensures at c.remove_members.ensures.gone

pub returns-in_default-clause-thinned : goal.returns-in_default-clause-thinned
returns-in_default-clause-thinned c = are_thinned_not c.args.members.now c.args.accesses.now

pub returns-in_default-clause-gone : goal.returns-in_default-clause-gone
returns-in_default-clause-gone c = λ f at.
    nothing_beside c.args.number c.args.accepted.now.entries c.args.steps.now f c.args.accesses.now (sym c.in_default.ensures) at
