use Rattle.std.proofs.Common.{◌∷◌, [], ◌++◌, sym, ap, ◌∙◌}
use Rattle.rev_causal.specs.Chosen.{without}
use Rattle.rev_hints.proofs.RunningLemmas.{running-begun, running-ended, running-same}
use Rattle.rev_hints.proofs.running.note_run.Goals as goal

pub returns-in_default : goal.returns-in_default
returns-in_default c = λ events number same.
    same ∙ sym (running-same c.args.graph.now.manifest.builds events number c.args.event.now (sym c.turned.ensures ∙ c.in_default.is))

pub returns-in_ok-push : goal.returns-in_ok-push
returns-in_ok-push c = λ events number same.
    c.in_ok-push.ensures.items
    ∙ ap (λ xs. xs ++ c.in-Some.edge ∷ []) (c.take_out.ensures ∙ ap (without c.in-Some.edge) same)
    ∙ sym (running-begun c.args.graph.now.manifest.builds events number c.in-Some.edge c.args.event.now (sym c.turned.ensures ∙ c.in-Some.is) (sym c.is_start.ensures ∙ c.if-is_start.true))

pub returns-else-is_start : goal.returns-else-is_start
returns-else-is_start c = λ events number same.
    c.take_out.ensures ∙ ap (without c.in-Some.edge) same
    ∙ sym (running-ended c.args.graph.now.manifest.builds events number c.in-Some.edge c.args.event.now (sym c.turned.ensures ∙ c.in-Some.is) (sym c.is_start.ensures ∙ c.if-is_start.false))
