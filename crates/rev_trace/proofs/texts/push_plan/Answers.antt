use Rattle.rev_fields.proofs.AnswerLemmas.{on_ok}
use Rattle.rev_trace.proofs.TextLemmas.{plan-text}
use Rattle.rev_trace.proofs.texts.push_plan.Goals as goal

pub returns-clause-text : goal.returns-clause-text
returns-clause-text c =
    on_ok c.next_paths.result _ _ (λ e. plan-text c.args.line.now.items c.push_word.new.line.items c.next_paths.new.line.items c.args.targets.now c.in_ok-push_word.ensures e) c.next_paths.ensures.text
