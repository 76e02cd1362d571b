use Rattle.std.proofs.Common.{sym, ap, ◌∙◌, ◌≡◌, ◌++◌, ◌∷◌, [], ◌≤◌, length, arith, drop, append_assoc}
use Rattle.std.specs.List.{position_or_len}
use Rattle.rev_syntax.specs.Bytes.{is_byte}
use Rattle.rev_syntax.specs.Lines.{file_lines}
use Rattle.rev_syntax.specs.Joining.{texts}
use Rattle.rev_syntax.proofs.LineLemmas.{file_lines-last, file_lines-more, tail-none, tail-some, texts-push}
use Rattle.rev_syntax.proofs.lines.file_lines.Goals as goal

pub returns-in-None : goal.returns-in-None
returns-in-None c =
    let rest = c.loop-rest.rest.now in
    let lines = c.loop-rest.lines.items in
    let none : length rest ≤ c.piece_len-end.result = tail-none rest c.piece_len-end.result c.in-None.ensures.cases in
    let last : length rest ≤ position_or_len (is_byte 10) rest = omega (arith, c.piece_len-end.ensures.piece) in
    ap texts c.in_ok-push-in-None.ensures.items ∙ texts-push lines c.loop-rest.rest
    ∙ ap (λ t. texts lines ++ t) (sym (file_lines-last rest (sym c.is_empty.ensures ∙ c.loop-rest-test.true) last)) ∙ c.loop-rest.invariant

pub loop-rest-preserved : goal.loop-rest-preserved
loop-rest-preserved c =
    let rest = c.loop-rest.rest.now in
    let lines = c.loop-rest.lines.items in
    let n = c.piece_len-end.result in
    let after = c.in-Some.after.now in
    let some : drop n rest ≡ c.in-Some.field-0-0.now ∷ after = tail-some rest after n c.in-Some.field-0-0.now c.in-Some.ensures.cases in
    let w = c.without_return.ensures in
    ap (λ t. t ++ file_lines after) (ap texts c.in_ok-push-in-Some.ensures.items ∙ texts-push lines c.without_return.result)
    ∙ append_assoc (texts lines) (c.without_return.result.now ∷ []) (file_lines after)
    ∙ ap (λ t. texts lines ++ t ∷ file_lines after) c.without_return.ensures
    ∙ ap (λ t. texts lines ++ t) (sym (file_lines-more rest after n c.in-Some.field-0-0.now c.piece_len-end.ensures.piece some)) ∙ c.loop-rest.invariant
