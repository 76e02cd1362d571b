use Rattle.std.proofs.Common.{sym, ap, ◌∙◌, ◌++◌, ◌+◌, ◌∷◌, [], ℕ, List, false, drop, add-one, Bor}
use Rattle.std.proofs.lemmas.List.{at_drop_more, at_drop_all, append-nil}
use Rattle.rev_syntax.specs.Lines.{LineValue, lines_from}
use Rattle.rev_syntax.specs.Joining.{texts, lines_after}
use Rattle.rev_syntax.proofs.lines.lines_of.Goals as goal

pub loop-i-init : goal.loop-i-init
loop-i-init c =
    ap (λ t. t ++ lines_from false 1 (texts c.deref-raw-items.result.now)) c.new-lines.ensures.items
    ∙ ap (λ x. lines_from false 1 (texts x)) c.deref-raw-items.ensures.value ∙ ap (lines_from false 1) c.in_ok-raw_lines.ensures

pub loop-i-preserved : goal.loop-i-preserved
loop-i-preserved c =
    let raws = c.deref-raw-items.result.now in
    let i = c.loop-i.i in
    let so_far = λ (rest : List (Bor (List ℕ))). c.loop-i.lines.items ++ lines_after c.loop-i.unended (i + 1) (texts rest) in
    ap (λ n. c.add_line.new.lines.items ++ lines_after c.in_ok-unended.unended n (texts (drop (i + 1) raws))) (add-one (i + 1))
    ∙ c.in_ok-unended.ensures (texts (drop (i + 1) raws)) ∙ sym (at_drop_more so_far raws i _ c.loop-i-test.true) ∙ c.loop-i.invariant

pub returns-in-None : goal.returns-in-None
returns-in-None c =
    let lines = c.loop-i.lines.items in
    let n = c.loop-i.i + 1 in
    let done = at_drop_all (λ (t : List (Bor (List ℕ))). lines ++ lines_after c.loop-i.unended n (texts t)) c.deref-raw-items.result.now c.loop-i.i c.loop-i-test.false in
    sym (append-nil lines) ∙ sym (ap (λ o. lines ++ lines_after o n []) c.in-None.is) ∙ sym done ∙ c.loop-i.invariant

pub returns : goal.returns
returns c =
    let lines = c.loop-i.lines.items in
    let n = c.loop-i.i + 1 in
    let done = at_drop_all (λ (t : List (Bor (List ℕ))). lines ++ lines_after c.loop-i.unended n (texts t)) c.deref-raw-items.result.now c.loop-i.i c.loop-i-test.false in
    c.in_ok-push-in-Some.ensures.items
    ∙ ap (λ (v : LineValue). lines ++ record { number = v.number; text = v.text; ended = false } ∷ []) c.line.view_is
    ∙ ap (λ text. lines ++ record { number = c.in-Some.line.number; text = text; ended = false } ∷ []) (sym (append-nil c.in-Some.line.text))
    ∙ sym (ap (λ o. lines ++ lines_after o n []) c.in-Some.is) ∙ sym done ∙ c.loop-i.invariant
