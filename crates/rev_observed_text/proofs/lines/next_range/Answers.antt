use Rattle.std.proofs.Common.{◌++◌, ◌∷◌, [], ap, ◌∙◌}
use Rattle.std.specs.Fmt.{decimal}
use Rattle.rev_observed_text.proofs.TextLemmas.{one-put, two-put}
use Rattle.rev_observed_text.proofs.lines.next_range.Goals as goal

pub returns-in_ok-push_number-clause-text : goal.returns-in_ok-push_number-clause-text
returns-in_ok-push_number-clause-text c =
    let first = c.wide-first.result in
    let last = c.wide-last.result in
    two-put c.args.text.now.items c.push_number.new.line.items c.args.range first last c.wide-first.ensures.same c.wide-last.ensures.same c.wide-first.ensures.short c.wide-last.ensures.short c.if-first-last.true
    (c.in_ok-push_number.ensures ∙ ap (λ l. l ++ decimal last) (c.in_ok-push.ensures.items ∙ ap (λ l. l ++ 45 ∷ []) c.in_ok-next_number.ensures))

pub returns-else-first-last-clause-text : goal.returns-else-first-last-clause-text
returns-else-first-last-clause-text c =
    one-put c.args.text.now.items c.next_number.new.line.items c.args.range c.wide-first.result c.wide-last.result c.wide-first.ensures.same c.wide-last.ensures.same c.wide-first.ensures.short c.if-first-last.false c.in_ok-next_number.ensures
