use Rattle.std.proofs.Common.{◌≡◌, ◌++◌, ◌+◌, ◌∷◌, [], rules, ap, drop, get_or, Some, Err, ◌∙◌, sym}
use Rattle.std.specs.Option.{ok_or}
use Rattle.std.specs.Bool.{◌==◌}
use Rattle.std.specs.List.{slice_split}
use Rattle.std.specs.Cow.{cow_slice_items}
use Rattle.std.proofs.lemmas.Result.{err_from_is_err_and}
use Rattle.rev_fields.specs.declared.faults.FaultKind.TheVariants.{Syntax}
use Rattle.rev_fields.specs.Fields.{text_of, all_texts, texts_of}
use Rattle.rev_fields.specs.Parts.{slices_of, lent_of}
use Rattle.rev_fields.proofs.AnswerLemmas.{fault_passes, some_from_ok_or, none_from_ok_or}
use Rattle.rev_fields.proofs.FieldLemmas.{joined, joined-empty, text_step, no_text_step, all_read}
use Rattle.rev_fields.proofs.SliceLemmas.{at-slices_of, within-slices_of, past-slices_of, lent_of-push}
use Rattle.rev_fields.proofs.fields.lent_fields.Goals as goal

pub loop-field-init : goal.loop-field-init
loop-field-init c =
    let start : c.in_ok-texts.texts.items ≡ [] = search rules in
    let rest = all_texts (slices_of c.deref-field-items.result.now) in
    ap (λ out. joined (lent_of out) rest) start ∙ joined-empty rest

pub returns-in_err-text : goal.returns-in_err-text
returns-in_err-text c =
    let items = c.deref-field-items.result.now in
    let i = c.loop-field.field-index in
    let p = err_from_is_err_and c.from_residual-in_err-text.result c.from_residual-in_err-text.ensures.1 in
    let whole : slices_of items ≡ slice_split (λ b. b == 32) c.args.line.now = ap slices_of c.deref-field-items.ensures.value ∙ c.in_ok-fields.ensures in
    fault_passes c.from_residual-in_err-text.result c.in_err-text.field-0.0 (λ text. cow_slice_items text) (λ texts. lent_of texts.items) _ (ok_or (texts_of c.args.line.now) Syntax)
    (p.1 ∙ ap Err p.2) (λ kind said.
    let bad = none_from_ok_or _ kind said in
    let none = no_text_step (slices_of items) (lent_of c.loop-field.texts.items) i (within-slices_of items i c.loop-field-test.true) (ap text_of (at-slices_of items i) ∙ bad.0) c.loop-field.invariant in
    ap (λ o. ok_or o Syntax) (ap all_texts (sym whole) ∙ none) ∙ ap Err (sym bad.1)) c.in_err-text.ensures.text

pub loop-field-preserved : goal.loop-field-preserved
loop-field-preserved c =
    let items = c.deref-field-items.result.now in
    let i = c.loop-field.field-index in
    let said : text_of (get_or (slices_of items) i []) ≡ Some (cow_slice_items c.in_ok-text.text) = ap text_of (at-slices_of items i) ∙ some_from_ok_or _ _ c.in_ok-text.ensures.text in
    let step = text_step (slices_of items) (lent_of c.loop-field.texts.items) i (cow_slice_items c.in_ok-text.text) (within-slices_of items i c.loop-field-test.true) said c.loop-field.invariant in
    let after : lent_of c.push.new.self.items ≡ lent_of c.loop-field.texts.items ++ cow_slice_items c.in_ok-text.text ∷ [] = ap lent_of c.in_ok-push.ensures.items ∙ lent_of-push c.loop-field.texts.items c.in_ok-text.text in
    ap (λ out. joined out (all_texts (drop (i + 1) (slices_of items)))) after ∙ step

pub returns : goal.returns
returns c =
    let items = c.deref-field-items.result.now in
    let whole : slices_of items ≡ slice_split (λ b. b == 32) c.args.line.now = ap slices_of c.deref-field-items.ensures.value ∙ c.in_ok-fields.ensures in
    ap (λ o. ok_or o Syntax) (ap all_texts (sym whole) ∙ all_read (slices_of items) (lent_of c.loop-field.texts.items) c.loop-field.field-index (past-slices_of items c.loop-field.field-index c.loop-field-test.false) c.loop-field.invariant)
