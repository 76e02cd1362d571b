-- Answers to several questions, and one more.
use Rattle.std.proofs.Common.{◌≡◌, ℕ, ◌+◌, ◌<◌, List, [], ◌∷◌, ◌++◌, length, get_or, take, Option, sym, subst}
use Rattle.rev_desk.specs.Machine.{DeskValue}
use Rattle.rev_observed.specs.Observations.{ObservationValue}
use Rattle.rev_prompt.specs.declared.answers.Answer.{Answer}
use Rattle.rev_prompt.specs.declared.question.Question.{Question}
use Rattle.rev_prompt.specs.Asked.{AreAnswers, IsAnswer}
use Rattle.rev_prompt.proofs.LastLemmas.{so-far}

-- behind the last
pub answers-push : (d : DeskValue) (o : Option ObservationValue) (edges : List ℕ) (questions : List Question)
    (answers : List Answer) (q : Question) (a : Answer) → AreAnswers d o edges questions answers
    → IsAnswer d o edges q a → AreAnswers d o edges (questions ++ q ∷ []) (answers ++ a ∷ [])
answers-push d o edges [] [] q a so one = (one, tt)
answers-push d o edges [] (b ∷ bs) q a so one = absurd so
answers-push d o edges (p ∷ ps) [] q a so one = absurd so
answers-push d o edges (p ∷ ps) (b ∷ bs) q a so one = (so.0, answers-push d o edges ps bs q a so.1 one)

-- up to a place, and of the question there
pub answers-next : (d : DeskValue) (o : Option ObservationValue) (edges : List ℕ) (questions : List Question) (i : ℕ)
    (q : Question) (answers : List Answer) (a : Answer) → i < length questions → q ≡ get_or questions i q
    → AreAnswers d o edges (take i questions) answers → IsAnswer d o edges q a
    → AreAnswers d o edges (take (i + 1) questions) (answers ++ a ∷ [])
answers-next d o edges questions i q answers a within is so one =
    subst (λ (all : List Question). AreAnswers d o edges all (answers ++ a ∷ [])) (sym (so-far questions i q within is))
    (answers-push d o edges (take i questions) answers q a so one)
