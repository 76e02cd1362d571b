use Rattle.std.proofs.Common.{◌≡◌, None, arith, ap, subst, sym, ◌∙◌}
use Rattle.rev_events.specs.declared.event.Event.TheVariants.{Pass}
use Rattle.rev_history.specs.Timeline.{accept_refusal}
use Rattle.rev_witness.specs.Progress.{pass_event}
use Rattle.rev_witness.specs.Witness.{HasHappened}
use Rattle.rev_witness.proofs.ProgressLemmas.{goes-by-pass, happened_and, numbers-left, pass-accepted}
use Rattle.rev_witness.proofs.happening.passes.Goals as goal

pub returns-clause-goes : goal.returns-clause-goes
returns-clause-goes c = λ opening way free phony due.
    let graph = c.args.graph.now in
    let is = c.edges-edges.ensures.graph in
    let x = c.args.edge in
    let t = c.args.history.now.timeline in
    let v = c.happens.new.history.timeline in
    let same : Pass c.in_ok-copy.field-0 ≡ pass_event c.args.graph.now.manifest c.args.edge = ap Pass (c.in_ok-copy.ensures.equal ∙ c.first_output-out.ensures) in
    let left = numbers-left graph is opening t way in
    let ok : accept_refusal t (Pass c.in_ok-copy.field-0) ≡ None =
    subst (λ e. accept_refusal t e ≡ None) (sym same) (pass-accepted graph is opening t x c.requires way free due phony) in
    happened_and c.happens.result (c.happens.ensures.accepted ok (omega (arith, left))) c.happens.ensures.happened (c.happens.ensures.began graph.manifest opening way.began)
    (λ happened began_v. goes-by-pass graph is opening t x c.requires way free due phony v began_v (subst (λ e. HasHappened e t v) same happened))
