use Rattle.std.proofs.Common.{◌≡◌, ◌∷◌, [], drop, true, false, None, Some, sym, ◌∙◌}
use Rattle.std.proofs.lemmas.List.{nil_from_length}
use Rattle.rev_patch.specs.Author.{author_in, is_comment}
use Rattle.rev_patch.proofs.AuthorLemmas.{author-none, author-found, author-last, author-more}
use Rattle.rev_patch.proofs.made_by.author_of.Goals as goal

pub returns-then-not-is_comment : goal.returns-then-not-is_comment
returns-then-not-is_comment c =
    let line = c.split_at.result.0.now in
    let other : is_comment line ≡ false = sym c.is_comment.ensures ∙ c.if-not-is_comment.true in
    sym (author-none c.loop-line.rest.now line c.line_len.result c.line_len.ensures.length c.split_at.ensures.front other) ∙ c.loop-line.invariant

pub returns-in-Some : goal.returns-in-Some
returns-in-Some c =
    let line = c.split_at.result.0.now in
    let comment : is_comment line ≡ true = sym c.is_comment.ensures ∙ c.if-not-is_comment.false in
    let found : author_in line ≡ Some c.in-Some.found = sym c.author_in.ensures ∙ c.in-Some.is in
    sym (author-found c.loop-line.rest.now line c.line_len.result c.in-Some.found c.line_len.ensures.length c.split_at.ensures.front comment found)
    ∙ c.loop-line.invariant

pub returns-in-None : goal.returns-in-None
returns-in-None c =
    let rest = c.loop-line.rest.now in
    let line = c.split_at.result.0.now in
    let comment : is_comment line ≡ true = sym c.is_comment.ensures ∙ c.if-not-is_comment.false in
    let none : author_in line ≡ None = sym c.author_in.ensures ∙ c.in_default.is in
    let end : drop c.line_len.result rest ≡ [] = sym c.split_at.ensures.back ∙ nil_from_length c.split_at.result.1.now c.in-None.ensures.cases in
    sym (author-last rest line c.line_len.result c.line_len.ensures.length c.split_at.ensures.front comment none end) ∙ c.loop-line.invariant

pub loop-line-preserved : goal.loop-line-preserved
loop-line-preserved c =
    let rest = c.loop-line.rest.now in
    let line = c.split_at.result.0.now in
    let after = c.in-Some-split_first.after.now in
    let comment : is_comment line ≡ true = sym c.is_comment.ensures ∙ c.if-not-is_comment.false in
    let none : author_in line ≡ None = sym c.author_in.ensures ∙ c.in_default.is in
    let more : drop c.line_len.result rest ≡ c.in-Some-split_first.field-0-0.now ∷ after = sym c.split_at.ensures.back ∙ c.in-Some-split_first.ensures.cases.0 in
    sym (author-more rest line after c.line_len.result c.in-Some-split_first.field-0-0.now c.line_len.ensures.length c.split_at.ensures.front comment none more)
    ∙ c.loop-line.invariant
