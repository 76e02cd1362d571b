use Rattle.std.proofs.Common.{◌≡◌, ◌∷◌, sym, ap, ◌∙◌}
use Rattle.rev_paths.specs.Kept.{texts}
use Rattle.rev_paths.proofs.PathLemmas.{texts-push}
use Rattle.rev_named.proofs.PieceLemmas.{cut-break, cut-first, cut-last, cut-part, cut-to}
use Rattle.rev_named.proofs.pieces.pieces.Goals as goal
use Rattle.rev_named.proofs.pieces.pieces.Goals.{then-not-is_part+in_ok-push, else-not-is_part}

pub loop-byte-init : goal.loop-byte-init
loop-byte-init c = cut-first c.args.text.now (texts c.new-pieces.result.items) (ap texts c.new-pieces.ensures.items)

pub loop-byte-preserved : goal.loop-byte-preserved
loop-byte-preserved c =
    let text = c.args.text.now in
    let rest = c.loop-byte.rest.now in
    let is : c.loop-byte.rest.now ≡ c.in-Some.byte.now ∷ c.in-Some.after.now = c.in-Some.ensures.cases.0 in
    elim c.if-not-is_part.branch [
      | then-not-is_part+in_ok-push w ↦
          cut-to text (texts w.push.new.self.items) (texts c.if-not-is_part.pieces.items) c.in-Some.after.now c.if-not-is_part.begin.now _ c.mode_after-mode.result c.in-Some.after.now
          (ap (λ v. texts v.items) (sym w.pieces-is)) (ap (λ b. b.now) (sym w.begin-is)) (sym c.mode_after-mode.ensures)
          (cut-break text (texts c.loop-byte.pieces.items) (texts w.push.new.self.items) c.loop-byte.begin.now c.loop-byte.mode rest c.in-Some.byte.now c.in-Some.after.now is
          (sym c.is_part.ensures ∙ w.if-not-is_part.true) (ap texts w.in_ok-push.ensures.items ∙ texts-push c.loop-byte.pieces.items _) c.loop-byte.invariant)
      | else-not-is_part w ↦
          cut-to text (texts c.loop-byte.pieces.items) (texts c.if-not-is_part.pieces.items) c.loop-byte.begin.now c.if-not-is_part.begin.now _ c.mode_after-mode.result c.in-Some.after.now
          (ap (λ v. texts v.items) (sym w.pieces-is)) (ap (λ b. b.now) (sym w.begin-is)) (sym c.mode_after-mode.ensures)
          (cut-part text (texts c.loop-byte.pieces.items) c.loop-byte.begin.now c.loop-byte.mode rest c.in-Some.byte.now c.in-Some.after.now is
          (sym c.is_part.ensures ∙ w.if-not-is_part.false) c.loop-byte.invariant)
    ]

pub returns : goal.returns
returns c =
    cut-last c.args.text.now (texts c.loop-byte.pieces.items) (texts c.push-2.new.self.items) c.loop-byte.begin.now c.loop-byte.mode c.loop-byte.rest.now
    c.in_default.ensures.cases (ap texts c.in_ok-push-2.ensures.items ∙ texts-push c.loop-byte.pieces.items _) c.loop-byte.invariant
