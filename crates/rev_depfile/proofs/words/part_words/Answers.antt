use Rattle.std.proofs.Common.{◌≡◌, ◌++◌, ◌∷◌, [], filter, drop, ap, sym, ◌∙◌}
use Rattle.rev_depfile.specs.Lines.{has_some, words}
use Rattle.rev_depfile.specs.Slices.{texts}
use Rattle.rev_depfile.proofs.WordLemmas.{words-none, words-more, empty_of_length}
use Rattle.rev_depfile.proofs.words.part_words.Goals as goal

pub returns-in-None-clause-words : goal.returns-in-None-clause-words
returns-in-None-clause-words c =
    let l = c.loop-found in
    let n = c.word_len.result in
    let none : drop n l.rest.now ≡ [] = sym c.split_at.ensures.back ∙ empty_of_length c.split_at.result.1.now c.in-None.ensures.cases in
    c.in_ok-push_word.ensures.ok ∙ ap (λ w. texts l.found.items ++ filter has_some (w ∷ [])) c.split_at.ensures.front
    ∙ ap (λ ws. texts l.found.items ++ ws) (sym (words-none l.rest.now n c.word_len.ensures.place none)) ∙ l.invariant.0

pub loop-found-preserved : goal.loop-found-preserved
loop-found-preserved c =
    let l = c.loop-found in
    let n = c.word_len.result in
    let after = c.in-Some.after.now in
    let some : drop n l.rest.now ≡ c.in-Some.field-0-0.now ∷ after = sym c.split_at.ensures.back ∙ c.in-Some.ensures.cases.0 in
    let both : texts c.push_word.new.found.items ++ words after ≡ words c.args.part.now = ap (λ ws. ws ++ words after) (c.in_ok-push_word.ensures.ok ∙ ap (λ w. texts l.found.items ++ filter has_some (w ∷ [])) c.split_at.ensures.front)
    ∙ words-more (texts l.found.items) l.rest.now after n c.in-Some.field-0-0.now c.word_len.ensures.place some ∙ l.invariant.0 in
    (both, c.in_ok-push_word.ensures.named l.invariant.1)
