use Rattle.std.proofs.Common.{◌∙◌, Some, ap, sym}
use Rattle.rev_report.proofs.AnswerLemmas.{answered, entered, stayed, unanswered}
use Rattle.rev_report.proofs.answers.answer.Goals as goal

pub returns-in-Ok-clause-answer : goal.returns-in-Ok-clause-answer
returns-in-Ok-clause-answer c = ap Some c.in-Ok.ensures.reply ∙ sym (answered c.args.desk.now c.args.command (λ full. c.in-Ok.ensures.full.1 full))

pub returns-in-Ok-clause-after : goal.returns-in-Ok-clause-after
returns-in-Ok-clause-after c = c.in-Ok.ensures.ok ∙ sym (entered c.args.desk.now c.args.lane c.args.command (λ full. c.in-Ok.ensures.full.1 full))

pub returns-in-JournalFull-clause-answer : goal.returns-in-JournalFull-clause-answer
returns-in-JournalFull-clause-answer c = sym (unanswered c.args.desk.now c.args.command (c.in-Err.ensures.full.0 (sym c.in-JournalFull.ensures)))

pub returns-in-JournalFull-clause-after : goal.returns-in-JournalFull-clause-after
returns-in-JournalFull-clause-after c = c.in-Err.ensures.err ∙ sym (stayed c.args.desk.now c.args.lane c.args.command (c.in-Err.ensures.full.0 (sym c.in-JournalFull.ensures)))
