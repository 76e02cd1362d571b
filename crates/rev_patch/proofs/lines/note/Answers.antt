use Rattle.std.proofs.Common.{◌≤◌, length, Some, not, ap, sym, ◌∙◌, arith}
use Rattle.std.proofs.lemmas.Grind.{common_steps}
use Rattle.rev_patch.specs.Lines.{line_of, with_new}
use Rattle.rev_patch.proofs.LineLemmas.{noted-set, noted-same, noted-none, unwrap-none, unwrap-some}
use Rattle.rev_patch.proofs.lines.note.Goals as goal

pub returns-then-is_none : goal.returns-then-is_none
returns-then-is_none c =
    let row = c.in-Some.row.now in
    let text = c.args.change.now.text.items in
    noted-set c.args.rows.now c.args.change.now.line row
    (record { old = row.old; new = Some c.deref.result; is_ended = row.is_ended }) text c.in-Some.ensures.lookup.1
    (ap (λ t. with_new (line_of row) (Some t)) (c.deref.ensures.value ∙ sym (unwrap-none row.new text (c.is_none.ensures ∙ ap not c.if-is_none.true))))

pub returns-else-is_none : goal.returns-else-is_none
returns-else-is_none c =
    let row = c.in-Some.row.now in
    let text = c.args.change.now.text.items in
    noted-same c.args.rows.now c.args.change.now.line row text c.in-Some.ensures.lookup.1
    (ap (λ n. with_new (line_of row) n) (unwrap-some row.new text (c.is_none.ensures ∙ ap not c.if-is_none.false)))

pub returns-in_default : goal.returns-in_default
returns-in_default c =
    let past : length c.args.rows.now ≤ c.args.change.now.line = grind (arith, common_steps, c.in_default.ensures.lookup) in
    noted-none c.args.rows.now c.args.change.now.line c.args.change.now.text.items past
