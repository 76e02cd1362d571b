use Rattle.std.proofs.Common.{take, IfSome}
use Rattle.std.specs.Option.{option_copied}
use Rattle.rev_prompt.specs.Asked.{AreAnswers}
use Rattle.rev_prompt.specs.Past.{IsOpeningOf, IsPlanned}
use Rattle.rev_prompt.proofs.each.asked_each.Given as goal

-- the answers to the questions so far, and a state that may be kept
abbrev pub invariant-loop-question : goal.invariant-loop-question
invariant-loop-question l = record {
  kept : IsOpeningOf l.desk.history l.session.opening.now → IfSome l.kept (IsPlanned l.desk.history);
  answered : IsOpeningOf l.desk.history l.session.opening.now
      → AreAnswers l.desk (option_copied l.session.observation) l.session.edges.now (take l.question-index l.questions)
      l.answers.items;
}
