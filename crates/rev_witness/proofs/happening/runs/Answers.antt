use Rattle.std.proofs.Common.{◌≡◌, None, arith, subst, sym, true≢false, ◌∙◌}
use Rattle.rev_history.specs.Timeline.{accept_refusal}
use Rattle.rev_witness.specs.Progress.{start_event}
use Rattle.rev_witness.specs.Witness.{HasHappened}
use Rattle.rev_witness.proofs.ProgressLemmas.{finish-accepted, goes-by-run, happened_and, numbers-left, start-accepted}
use Rattle.rev_witness.proofs.happening.runs.Goals as goal

-- the start happens
pub returns-then-not-branch-clause-goes : goal.returns-then-not-branch-clause-goes
returns-then-not-branch-clause-goes c = λ opening way free plain due.
    let graph = c.args.graph.now in
    let is = c.edges-edges.ensures.graph in
    let x = c.args.edge in
    let t = c.args.history.now.timeline in
    let left = numbers-left graph is opening t way in
    let ok : accept_refusal t c.in_ok-start.start ≡ None = subst (λ e. accept_refusal t e ≡ None) (sym c.in_ok-start.ensures) (start-accepted graph is opening t x c.requires way free due plain) in
    absurd (true≢false (sym (c.in_ok-happens.ensures.accepted ok (omega (arith, left))) ∙ c.if-not-branch.true))

pub returns-clause-goes : goal.returns-clause-goes
returns-clause-goes c = λ opening way free plain due.
    let graph = c.args.graph.now in
    let is = c.edges-edges.ensures.graph in
    let x = c.args.edge in
    let t = c.args.history.now.timeline in
    let u = c.happens.new.history.timeline in
    let v = c.happens-2.new.history.timeline in
    let started : HasHappened (start_event graph.manifest x) t u = subst (λ e. HasHappened e t u) c.in_ok-start.ensures (c.in_ok-happens.ensures.happened c.if-not-branch.false) in
    let began = c.in_ok-happens.ensures.began graph.manifest opening way.began in
    let left = numbers-left graph is opening t way in
    let first = started.last in
    let ok : accept_refusal u c.in_ok-finish.finish ≡ None =
    subst (λ e. accept_refusal u e ≡ None) (sym c.in_ok-finish.ensures) (finish-accepted graph is opening t x c.requires way free due plain u began started) in
    happened_and c.happens-2.result (c.happens-2.ensures.accepted ok (omega (arith, left, first))) c.happens-2.ensures.happened (c.happens-2.ensures.began graph.manifest opening began)
    (λ finished began_v. goes-by-run graph is opening t x c.requires way free due plain u began started v began_v (subst (λ e. HasHappened e u v) c.in_ok-finish.ensures finished))
