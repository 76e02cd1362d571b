use Rattle.std.proofs.Common.{◌≡◌, [], get_or, length, Some, None, true, false, arith, refl, sym, ap, ◌∙◌}
use borrow.Author.Count.{below_more}
use Rattle.rev_fields.specs.declared.faults.FaultKind.TheVariants.{Syntax}
use Rattle.rev_fields.specs.declared.faults.ReadFault.TheVariants as text
use Rattle.rev_fields.specs.Faults.{first_fault}
use Rattle.rev_fields.specs.Lines.{is_blank, lines_of, said_by}
use Rattle.rev_fields.specs.Parts.{slices_of}
use Rattle.rev_script.specs.Scripts.{script_line, script_wrong}
use Rattle.rev_fields.proofs.FaultLemmas.{line_at_fault, first_fault-some, first_fault-none}
use Rattle.rev_fields.proofs.SaidLemmas.{is_blank-length, said-blank, said_all, said_step, unsaid_step, wrong_by-blank, wrong_by-err, wrong_by-ok}
use Rattle.rev_fields.proofs.SliceLemmas.{at-slices_of, past-slices_of, within-slices_of, length-slices_of}
use Rattle.rev_script.proofs.script.read_script.Goals as goal

pub loop-place-init : goal.loop-place-init
loop-place-init c = (c.new-words.ensures.items, λ k lt. absurd (omega arith))

pub loop-place-preserved-then-is_empty : goal.loop-place-preserved-then-is_empty
loop-place-preserved-then-is_empty c =
    let items = c.deref-line-items.result.now in
    let i = c.loop-place.place in
    let blank : is_blank (get_or (slices_of items) i []) ≡ true = ap is_blank (at-slices_of items i) ∙ is_blank-length _ ∙ sym c.is_empty.ensures ∙ c.if-is_empty.true in (
      unsaid_step script_line (slices_of items) c.loop-place.words.items i Syntax (within-slices_of items i c.loop-place-test.true) (said-blank script_line (get_or (slices_of items) i []) refl blank) c.loop-place.invariant.0,
      below_more (λ k. script_wrong (slices_of items) k ≡ None) i c.loop-place.invariant.1 (wrong_by-blank script_line (get_or (slices_of items) i []) blank),
    )

pub returns-in-Err-clause-fault : goal.returns-in-Err-clause-fault
returns-in-Err-clause-fault c = λ f h.
    let items = c.deref-line-items.result.now in
    let i = c.loop-place.place in
    let filled : is_blank (get_or (slices_of items) i []) ≡ false = ap is_blank (at-slices_of items i) ∙ is_blank-length _ ∙ sym c.is_empty.ensures ∙ c.if-is_empty.false in
    let same : c.at.result ≡ text.Numbered f = cc in
    let found = line_at_fault c.in-Err.fault (λ x. x) (script_line (get_or items i (record { ref_ptr = (0, 0); now = [] })).now) (i) f c.in-Err.ensures (sym c.at.ensures ∙ same) in
    let whole : slices_of items ≡ lines_of c.args.text.now = ap slices_of c.deref-line-items.ensures.value ∙ c.in_ok-lines.ensures in
    let wrong = wrong_by-err script_line (get_or (slices_of items) i []) found.0 filled (ap script_line (at-slices_of items i) ∙ found.1) in
    ap (λ lines. first_fault (script_wrong lines) (length lines)) (sym whole)
    ∙ first_fault-some (script_wrong (slices_of items)) (length (slices_of items)) i found.0 (within-slices_of items i c.loop-place-test.true) c.loop-place.invariant.1 wrong ∙ ap Some (sym found.2)

pub loop-place-preserved : goal.loop-place-preserved
loop-place-preserved c =
    let items = c.deref-line-items.result.now in
    let i = c.loop-place.place in
    let filled : is_blank (get_or (slices_of items) i []) ≡ false = ap is_blank (at-slices_of items i) ∙ is_blank-length _ ∙ sym c.is_empty.ensures ∙ c.if-is_empty.false in
    let said = ap script_line (at-slices_of items i) ∙ c.in-Ok.ensures in (
      c.in_ok-push-in-Ok.ensures.items ∙ said_step script_line (slices_of items) c.loop-place.words.items i c.in-Ok.word (within-slices_of items i c.loop-place-test.true) said c.loop-place.invariant.0,
      below_more (λ k. script_wrong (slices_of items) k ≡ None) i c.loop-place.invariant.1 (wrong_by-ok script_line (get_or (slices_of items) i []) c.in-Ok.word filled said),
    )

pub returns-clause-words : goal.returns-clause-words
returns-clause-words c =
    let items = c.deref-line-items.result.now in
    let whole : slices_of items ≡ lines_of c.args.text.now = ap slices_of c.deref-line-items.ensures.value ∙ c.in_ok-lines.ensures in
    said_all script_line (slices_of items) c.loop-place.words.items c.loop-place.place (past-slices_of items c.loop-place.place c.loop-place-test.false) c.loop-place.invariant.0 ∙ ap (said_by script_line) whole

pub returns-clause-sound : goal.returns-clause-sound
returns-clause-sound c =
    let items = c.deref-line-items.result.now in
    let whole : slices_of items ≡ lines_of c.args.text.now = ap slices_of c.deref-line-items.ensures.value ∙ c.in_ok-lines.ensures in
    ap (λ lines. first_fault (script_wrong lines) (length lines)) (sym whole)
    ∙ first_fault-none (script_wrong (slices_of items)) (length (slices_of items)) (λ k lt. c.loop-place.invariant.1 k (omega (arith, length-slices_of items)))
