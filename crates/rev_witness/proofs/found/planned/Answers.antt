use Rattle.std.proofs.Common.{◌≡◌, None, ap, arith, subst, sym, true≢false, ◌∙◌}
use Rattle.rev_history.specs.Timeline.{Timeline, accept_refusal, last_of, opened}
use Rattle.rev_history.specs.Value.{HistoryValue}
use Rattle.rev_witness.specs.Progress.{plan_event}
use Rattle.rev_witness.specs.Witness.{BeganWith, HasHappened}
use Rattle.rev_witness.proofs.ProgressLemmas.{began_opened, two-accepted, two-planned}
use Rattle.rev_witness.proofs.found.planned.Goals as goal

-- the plan of both is accepted, and there is a number for it
pub returns-then-not-branch-clause-planned : goal.returns-then-not-branch-clause-planned
returns-then-not-branch-clause-planned c = λ alone there of_user of_maker.
    let graph = c.args.graph.now in
    let opening = c.args.opening.now.state in
    let t = c.in_ok-history.history.timeline in
    let t_is : c.in_ok-history.history.timeline ≡ opened c.args.graph.now.manifest 1 c.args.opening.now.state =
    ap (λ (h : HistoryValue). h.timeline) c.in_ok-history.ensures ∙ (λ i. opened (c.in_ok-again.ensures i) (c.requires.jobs i) opening) in
    let ok : accept_refusal t c.in_ok-plan.plan ≡ None =
    (λ i. accept_refusal (t_is i) (c.in_ok-plan.ensures i)) ∙ two-accepted graph c.edges-edges.ensures.graph opening alone there c.args.user c.args.maker c.requires.user c.requires.maker in
    let none : last_of c.in_ok-history.history.timeline.accepted ≡ 0 = ap (λ (v : Timeline). last_of v.accepted) t_is in
    absurd (true≢false (sym (c.in_ok-happens.ensures.accepted ok (omega (arith, none))) ∙ c.if-not-branch.true))

pub returns-clause-planned : goal.returns-clause-planned
returns-clause-planned c = λ alone there of_user of_maker.
    let graph = c.args.graph.now in
    let opening = c.args.opening.now.state in
    let u = c.happens.new.history.timeline in
    let t_is : c.in_ok-history.history.timeline ≡ opened c.args.graph.now.manifest 1 c.args.opening.now.state =
    ap (λ (h : HistoryValue). h.timeline) c.in_ok-history.ensures ∙ (λ i. opened (c.in_ok-again.ensures i) (c.requires.jobs i) opening) in
    let began = c.in_ok-happens.ensures.began graph.manifest opening (subst (λ v. BeganWith graph.manifest opening v) (sym t_is) (began_opened graph.manifest opening)) in
    two-planned graph c.edges-edges.ensures.graph opening alone there c.args.user c.args.maker c.requires.user c.requires.maker of_user.plain of_maker.plain u began
    (subst (λ v. HasHappened (plan_event graph.manifest c.args.maker c.args.user) v u) t_is
    (subst (λ e. HasHappened e c.in_ok-history.history.timeline u) c.in_ok-plan.ensures (c.in_ok-happens.ensures.happened c.if-not-branch.false)))
