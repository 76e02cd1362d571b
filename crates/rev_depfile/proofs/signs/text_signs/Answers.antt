use Rattle.std.proofs.Common.{◌≡◌, ◌++◌, ◌+◌, true, false, get_or, drop, refl, ap, sym, ◌∙◌, arith, append_assoc}
use Rattle.std.proofs.lemmas.Bool.{eq-eqb, ne_eqb}
use Rattle.rev_depfile.specs.Signs.{is_line_end_return, reading, read_signs}
use Rattle.rev_depfile.proofs.SignLemmas.{signs_left, left-backslash, left-return, left-byte, left-none, tail-all}
use Rattle.rev_depfile.proofs.signs.text_signs.Goals as goal

pub loop-i-init : goal.loop-i-init
loop-i-init c = (ap (λ xs. xs ++ signs_left 0 0 0 c.args.text.now) c.new-signs.ensures.items ∙ left-none c.args.text.now, omega arith)

pub loop-i-preserved-then-byte-eq92 : goal.loop-i-preserved-then-byte-eq92
loop-i-preserved-then-byte-eq92 c =
    let text = c.args.text.now in
    let l = c.loop-i in
    let step = left-backslash l.at l.backslashes l.i (get_or text l.i 0) text c.loop-i-test.true refl (eq-eqb (get_or text l.i 0) 92 c.if-byte-eq92.true) in (
      ap (λ xs. l.signs.items ++ xs) (sym step) ∙ l.invariant.0,
      omega arith,
    )

pub loop-i-preserved-then-is_line_end_return : goal.loop-i-preserved-then-is_line_end_return
loop-i-preserved-then-is_line_end_return c =
    let text = c.args.text.now in
    let l = c.loop-i in
    let b = get_or text l.i 0 in
    let returned : is_line_end_return b (drop (l.i + 1) text) ≡ true =
    ap (is_line_end_return b) (sym (tail-all (l.i + 1) text)) ∙ sym c.is_line_end_return.ensures ∙ c.if-is_line_end_return.true in
    let step = left-return l.at l.backslashes l.i b text c.loop-i-test.true refl (ne_eqb b 92 c.if-byte-eq92.false) returned in (
      ap (λ xs. l.signs.items ++ xs) (sym step) ∙ l.invariant.0,
      omega arith,
    )

pub loop-i-preserved : goal.loop-i-preserved
loop-i-preserved c =
    let text = c.args.text.now in
    let l = c.loop-i in
    let b = get_or text l.i 0 in
    let other : is_line_end_return b (drop (l.i + 1) text) ≡ false =
    ap (is_line_end_return b) (sym (tail-all (l.i + 1) text)) ∙ sym c.is_line_end_return.ensures ∙ c.if-is_line_end_return.false in
    let read = c.reading.ensures ∙ ap (reading l.backslashes b) (tail-all (l.i + 1) text) in
    let step = left-byte l.at l.backslashes l.i b text c.loop-i-test.true refl (ne_eqb b 92 c.if-byte-eq92.false) other in
    let rest = signs_left (l.i + 1) 0 (l.i + 1) text in (
      ap (λ xs. xs ++ rest) (c.in_ok-push_reading.ensures.ok ∙ ap (λ r. l.signs.items ++ read_signs l.at r) read)
          ∙ append_assoc l.signs.items (read_signs l.at (reading l.backslashes b (drop (l.i + 1) text))) rest
          ∙ ap (λ xs. l.signs.items ++ xs) (sym step) ∙ l.invariant.0,
      omega arith,
    )
