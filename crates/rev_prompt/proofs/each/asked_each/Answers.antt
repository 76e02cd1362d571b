use Rattle.std.proofs.Common.{◌+◌, List, take, sym, subst}
use Rattle.std.specs.Option.{option_copied}
use Rattle.rev_prompt.specs.declared.answers.Answer.{Answer}
use Rattle.rev_prompt.specs.Asked.{AreAnswers}
use Rattle.rev_prompt.proofs.EachLemmas.{answers-next}
use Rattle.rev_prompt.proofs.each.asked_each.Goals as goal

pub loop-question-preserved : goal.loop-question-preserved
loop-question-preserved c = record {
  kept = c.in_ok-answer.ensures.kept;
  answered = λ is.
      let d = c.args.desk.now in
      let o = option_copied c.args.session.now.observation in
      let edges = c.args.session.now.edges.now in
      let questions = c.args.questions.now in
      let i = c.loop-question.question-index in
      subst (λ (answers : List Answer). AreAnswers c.args.desk.now (option_copied c.args.session.now.observation)
      c.args.session.now.edges.now (take (c.loop-question.question-index + 1) c.args.questions.now) answers)
      (sym c.in_ok-push.ensures.items)
      (answers-next d o edges questions i c.question-item.result c.loop-question.answers.items c.in_ok-answer.answer
      c.loop-question-test.true c.question-item.is (c.loop-question.invariant.answered is)
      (c.in_ok-answer.ensures.answered is));
}
