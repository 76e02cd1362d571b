use Rattle.std.proofs.Common.{◌≡◌, ◌==◌, ◌+◌, ◌++◌, ◌∷◌, [], map, take, length, zero-add, ap, sym, ◌∙◌, arith}
use Rattle.std.specs.List.{slice_split}
use Rattle.std.proofs.lemmas.List.{map_more, with_items_is}
use Rattle.rev_patch.specs.Lines.{edit_of, edited_from, edits, line_of, lines_of}
use Rattle.rev_patch.specs.Noted.{noted}
use Rattle.rev_patch.proofs.LineLemmas.{edited-nothing, edited-noted}
use Rattle.rev_patch.proofs.lines.edited_rows.Goals as goal

pub loop-change-init : goal.loop-change-init
loop-change-init c = c.in_ok-rows.ensures ∙ sym (edited-nothing 0 (slice_split (λ b. b == 10) c.args.text.now))

pub loop-change-preserved : goal.loop-change-preserved
loop-change-preserved c =
    let l = c.loop-change in
    let changes = c.args.changes.now in
    let change = c.change-item.result in
    let e = edit_of change in
    let es = edits (take l.change-index changes) in
    let ls = lines_of c.args.text.now in
    let kept : length c.note.new.rows ≡ l.rows.len = omega arith in
    let one_more : es ++ e ∷ [] ≡ edits (take (l.change-index + 1) changes) =
    ap (λ x. es ++ edit_of x ∷ []) c.change-item.is ∙ sym (map_more edit_of changes l.change-index change c.loop-change-test.true) in
    ap (map line_of) (with_items_is l.rows c.note.new.rows kept) ∙ c.note.ensures
    ∙ ap (λ rows. noted (map line_of rows) e) c.deref_mut.ensures.value ∙ ap (λ lines. noted lines e) l.invariant
    ∙ edited-noted ls e.line 0 es e (zero-add e.line) ∙ ap (λ all. edited_from 0 all ls) one_more
