use Rattle.std.proofs.Common.{◌∙◌, sym}
use Rattle.rev_report.proofs.AnswerLemmas.{entered, stayed}
use Rattle.rev_recording.proofs.replayed.say.Goals as goal

pub returns-in-Ok-clause-after : goal.returns-in-Ok-clause-after
returns-in-Ok-clause-after c = c.in-Ok.ensures.ok ∙ sym (entered c.args.desk.now c.args.lane c.args.command (λ full. c.in-Ok.ensures.full.1 full))

pub returns-in-JournalFull-clause-after : goal.returns-in-JournalFull-clause-after
returns-in-JournalFull-clause-after c = c.in-Err.ensures.err ∙ sym (stayed c.args.desk.now c.args.lane c.args.command (c.in-Err.ensures.full.0 (sym c.in-JournalFull.ensures)))
