use Rattle.std.proofs.Common.{◌≡◌, true, List, ℕ, Some, get_or, take, subst, sym, refl, ◌∙◌}
use Rattle.std.proofs.lemmas.List.{take_more}
use Rattle.rev_accesses.proofs.PlaceLemmas.{take_whole}
use Rattle.rev_causal.specs.Chosen.{is_among}
use Rattle.rev_history.specs.Steps.{place_prints}
use Rattle.rev_history.proofs.RemovalLemmas.{AreGone, among_at, none_gone, one_more_gone}
use Rattle.rev_history.proofs.removal.remove_members.Goals as goal

pub loop-member-init : goal.loop-member-init
loop-member-init c = none_gone c.args.members.now (place_prints c.args.accepted.now.entries c.args.steps.now) c.args.accesses.now

pub remove_member-requires-clause-member : goal.remove_member-requires-clause-member
remove_member-requires-clause-member c = among_at c.args.members.now c.loop-member.member-index c.loop-member-test.true

pub loop-member-preserved : goal.loop-member-preserved
loop-member-preserved c =
    let members = c.args.members.now in
    let prints = place_prints c.args.accepted.now.entries c.args.steps.now in
    let i = c.loop-member.member-index in
    subst (λ (done : List ℕ). AreGone members prints done c.args.accesses.now c.remove_member.new.accesses)
    (sym (take_more members i 0 c.loop-member-test.true))
    (one_more_gone members prints (take i members) (get_or members i 0) c.args.accesses.now c.loop-member.accesses c.remove_member.new.accesses c.loop-member.invariant
    c.remove_member.ensures.thinned c.remove_member.ensures.gone)

pub returns-clause-thinned : goal.returns-clause-thinned
returns-clause-thinned c = c.loop-member.invariant.thinned

pub returns-clause-gone : goal.returns-clause-gone
returns-clause-gone c = λ n f among at.
    c.loop-member.invariant.gone n f
    (subst (λ (ms : List ℕ). is_among ms n ≡ true) (sym (take_whole c.args.members.now c.loop-member.member-index c.loop-member-test.false)) among) at
