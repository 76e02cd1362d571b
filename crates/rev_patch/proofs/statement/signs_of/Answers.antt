use Rattle.std.proofs.Common.{◌≡◌, ◌+◌, ◌∷◌, length, drop, ap, sym, ◌∙◌, arith}
use Rattle.std.proofs.lemmas.List.{nil_from_length}
use Rattle.rev_patch.specs.Statement.{size, tokens}
use Rattle.rev_patch.specs.Read.{signs_after, signs_with}
use Rattle.rev_patch.proofs.ReadLemmas.{read-more, read-order, read-validations, read-last, read-goes}
use Rattle.rev_patch.proofs.statement.signs_of.Goals as goal

pub loop-first-preserved : goal.loop-first-preserved
loop-first-preserved c =
    let l = c.loop-first in
    let rest = l.rest.now in
    let t = c.first_token-token.result in
    let read = c.split_at.result.0.now in
    let left = c.split_at.result.1.now in
    let is : rest ≡ c.in-Some.first.now ∷ c.in-Some.behind.now = c.in-Some.ensures.cases.0 in
    let count : length read ≡ size t = c.split_at.ensures.front_len ∙ c.size.ensures in
    let left-is : left ≡ drop (size t) rest = c.split_at.ensures.back ∙ ap (λ k. drop k rest) c.size.ensures in
    let both = c.split_at.ensures.back_len in
    let front = c.split_at.ensures.front_len in (
      ap (λ s. signs_after s (l.at + length read) (tokens left)) c.signs_with-signs.ensures
          ∙ ap (λ k. signs_after (signs_with l.signs (l.at + k) t) (l.at + k) (tokens left)) count
          ∙ ap (λ xs. signs_after (signs_with l.signs (l.at + size t) t) (l.at + size t) (tokens xs)) left-is
          ∙ sym (read-more l.signs l.at rest c.in-Some.first.now c.in-Some.behind.now t is c.first_token-token.ensures.value) ∙ l.invariant.0,
      omega arith,
    )

pub returns-clause-order : goal.returns-clause-order
returns-clause-order c =
    let l = c.loop-first in
    read-order (tokens c.args.line.now) l.signs
    (sym (ap (λ xs. signs_after l.signs l.at (tokens xs)) (nil_from_length l.rest.now c.in_default.ensures.cases)) ∙ l.invariant.0)

pub returns-clause-validations : goal.returns-clause-validations
returns-clause-validations c =
    let l = c.loop-first in
    read-validations (tokens c.args.line.now) l.signs
    (sym (ap (λ xs. signs_after l.signs l.at (tokens xs)) (nil_from_length l.rest.now c.in_default.ensures.cases)) ∙ l.invariant.0)

pub returns-clause-last : goal.returns-clause-last
returns-clause-last c =
    let l = c.loop-first in
    read-last (tokens c.args.line.now) l.signs
    (sym (ap (λ xs. signs_after l.signs l.at (tokens xs)) (nil_from_length l.rest.now c.in_default.ensures.cases)) ∙ l.invariant.0)

pub returns-clause-goes_on : goal.returns-clause-goes_on
returns-clause-goes_on c =
    let l = c.loop-first in
    read-goes (tokens c.args.line.now) l.signs
    (sym (ap (λ xs. signs_after l.signs l.at (tokens xs)) (nil_from_length l.rest.now c.in_default.ensures.cases)) ∙ l.invariant.0)
