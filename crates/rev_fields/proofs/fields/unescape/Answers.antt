use Rattle.std.proofs.Common.{◌≡◌, ◌==◌, ◌++◌, ◌+◌, ◌∷◌, [], true, false, rules, ap, get_or, Some, None, ◌∙◌, sym, refl}
use Rattle.std.specs.Option.{ok_or, is_some}
use Rattle.std.proofs.lemmas.Bool.{ne_eqb}
use Rattle.rev_fields.specs.declared.faults.FaultKind.TheVariants.{Syntax}
use Rattle.rev_fields.specs.Fields.{unescaped, byte_of, letter_of}
use Rattle.rev_fields.proofs.FieldLemmas.{joined, joined-empty, plain_step, bare_step, backslash_step, escaped_step, unknown_step, same_read, read_all, cut_short}
use Rattle.rev_fields.proofs.fields.unescape.Goals as goal
use Rattle.rev_fields.proofs.fields.unescape.Goals.{then-after_backslash+in-Some+in_ok-push, else-after_backslash+then-byte-eq92, else-after_backslash+else-byte-eq92+else-is_some+in_ok-push-2}

pub loop-byte-init : goal.loop-byte-init
loop-byte-init c =
    let start : c.in_ok-text.text.items ≡ [] = search rules in
    ap (λ out. joined out (unescaped c.args.field.now)) start ∙ joined-empty (unescaped c.args.field.now)

pub returns-in_default : goal.returns-in_default
returns-in_default c =
    let inv = same_read c.args.field.now _ c.loop-byte.text.items _ true c.loop-byte.byte-index refl (sym c.if-after_backslash.true) c.loop-byte.invariant in
    let none : byte_of (get_or c.args.field.now c.loop-byte.byte-index 0) ≡ None = sym c.escaped_byte.ensures ∙ c.in_default.is in
    ap (λ o. ok_or o Syntax) (unknown_step c.args.field.now c.loop-byte.text.items c.loop-byte.byte-index c.loop-byte-test.true none inv)

pub returns-then-is_some : goal.returns-then-is_some
returns-then-is_some c =
    let inv = same_read c.args.field.now _ c.loop-byte.text.items _ false c.loop-byte.byte-index refl (sym c.if-after_backslash.false) c.loop-byte.invariant in
    let plain : (get_or c.args.field.now c.loop-byte.byte-index 0 == 92) ≡ false = ne_eqb _ _ c.if-byte-eq92.false in
    let some : is_some (letter_of (get_or c.args.field.now c.loop-byte.byte-index 0)) ≡ true = ap is_some (sym c.letter.ensures) ∙ sym c.is_some.ensures ∙ c.if-is_some.true in
    ap (λ o. ok_or o Syntax) (bare_step c.args.field.now c.loop-byte.text.items c.loop-byte.byte-index c.loop-byte-test.true plain some inv)

pub loop-byte-preserved : goal.loop-byte-preserved
loop-byte-preserved c =
    elim c.if-after_backslash.branch [
      | then-after_backslash+in-Some+in_ok-push w ↦
          let inv = same_read c.args.field.now _ c.loop-byte.text.items _ true c.loop-byte.byte-index refl (sym w.if-after_backslash.true) c.loop-byte.invariant in
          let some : byte_of (get_or c.args.field.now c.loop-byte.byte-index 0) ≡ Some w.in-Some.written = sym w.escaped_byte.ensures ∙ w.in-Some.is in
          let step = escaped_step c.args.field.now c.loop-byte.text.items c.loop-byte.byte-index w.in-Some.written c.loop-byte-test.true some inv in
          same_read c.args.field.now (c.loop-byte.text.items ++ w.in-Some.written ∷ []) c.if-after_backslash.text.items false c.if-after_backslash.after_backslash (c.loop-byte.byte-index + 1) (rw w.text-is w.in_ok-push.ensures.items) w.after_backslash-is step
      | else-after_backslash+then-byte-eq92 w ↦
          let inv = same_read c.args.field.now _ c.loop-byte.text.items _ false c.loop-byte.byte-index refl (sym w.if-after_backslash.false) c.loop-byte.invariant in
          let step = backslash_step c.args.field.now c.loop-byte.text.items c.loop-byte.byte-index c.loop-byte-test.true w.if-byte-eq92.true inv in
          same_read c.args.field.now c.loop-byte.text.items c.if-after_backslash.text.items true c.if-after_backslash.after_backslash (c.loop-byte.byte-index + 1) (rw w.text-is refl) w.after_backslash-is step
      | else-after_backslash+else-byte-eq92+else-is_some+in_ok-push-2 w ↦
          let inv = same_read c.args.field.now _ c.loop-byte.text.items _ false c.loop-byte.byte-index refl (sym w.if-after_backslash.false) c.loop-byte.invariant in
          let plain : (get_or c.args.field.now c.loop-byte.byte-index 0 == 92) ≡ false = ne_eqb _ _ w.if-byte-eq92.false in
          let none : is_some (letter_of (get_or c.args.field.now c.loop-byte.byte-index 0)) ≡ false = ap is_some (sym w.letter.ensures) ∙ sym w.is_some.ensures ∙ w.if-is_some.false in
          let step = plain_step c.args.field.now c.loop-byte.text.items c.loop-byte.byte-index c.loop-byte-test.true plain none inv in
          same_read c.args.field.now (c.loop-byte.text.items ++ get_or c.args.field.now c.loop-byte.byte-index 0 ∷ []) c.if-after_backslash.text.items false c.if-after_backslash.after_backslash (c.loop-byte.byte-index + 1) (rw w.text-is w.in_ok-push-2.ensures.items) (w.after_backslash-is ∙ w.if-after_backslash.false) step
    ]

pub returns-then-after_backslash-2 : goal.returns-then-after_backslash-2
returns-then-after_backslash-2 c =
    let inv = same_read c.args.field.now _ c.loop-byte.text.items _ true c.loop-byte.byte-index refl (sym c.if-after_backslash-2.true) c.loop-byte.invariant in
    ap (λ o. ok_or o Syntax) (cut_short c.args.field.now c.loop-byte.text.items c.loop-byte.byte-index c.loop-byte-test.false inv)

pub returns : goal.returns
returns c =
    let inv = same_read c.args.field.now _ c.loop-byte.text.items _ false c.loop-byte.byte-index refl (sym c.if-after_backslash-2.false) c.loop-byte.invariant in
    ap (λ o. ok_or o Syntax) (read_all c.args.field.now c.loop-byte.text.items c.loop-byte.byte-index c.loop-byte-test.false inv)
