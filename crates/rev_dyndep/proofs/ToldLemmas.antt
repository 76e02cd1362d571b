-- What statements say, one after another.
use Rattle.std.proofs.Common.{◌≡◌, List, [], ◌∷◌, ◌++◌, Result, Ok, Err, refl, sym, ap, ◌∙◌}
use Rattle.rev_syntax.specs.Statements.{StatementValue}
use Rattle.rev_syntax.specs.declared.fault.SyntaxFault.{SyntaxFault}
use Rattle.rev_dyndep.specs.declared.fault.DyndepFault.{DyndepFault}
use Rattle.rev_dyndep.specs.Answers.{and_then, onto}
use Rattle.rev_dyndep.specs.Told.{ToldValue, told_of, all_told}
use Rattle.rev_dyndep.proofs.AnswerLemmas.{onto-push}

-- one statement more is told
pub next_told : (first : List ToldValue) (one : ToldValue) (statement : StatementValue)
    (others rest : List (Result StatementValue SyntaxFault)) (whole : Result (List ToldValue) DyndepFault)
    → told_of statement ≡ Ok one → rest ≡ Ok statement ∷ others → onto first (all_told rest) ≡ whole
    → onto (first ++ one ∷ []) (all_told others) ≡ whole
next_told first one statement others rest whole told is known =
    onto-push first one (all_told others)
    ∙ ap (λ r. onto first (and_then r (λ t. and_then (all_told others) (λ more. Ok (t ∷ more))))) (sym told)
    ∙ ap (λ r. onto first (all_told r)) (sym is) ∙ known
