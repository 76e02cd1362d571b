use Rattle.std.proofs.Common.{sym, ◌∙◌, arith}
use Rattle.rev_contents.proofs.Compared.{parted-step}
use Rattle.rev_contents.proofs.compare.disagreement.Goals as goal
use Rattle.rev_contents.proofs.compare.disagreement.Goals.{else-at-other-via-then-at-other+then-other-at+else-not-is_like, else-at-other-via-then-at-other+else-other-at, else-at-other-via-else-at-other}

pub loop-look-preserved : goal.loop-look-preserved
loop-look-preserved c =
    parted-step c.args.one.now c.args.other.now c.loop-look.look-index c.loop-look.at c.first_from-at.result _ c.requires.one_rises c.requires.other_rises
    c.loop-look-test.true c.loop-look.invariant c.first_from-at.ensures.to c.first_from-at.ensures.passed c.first_from-at.ensures.stopped
    (λ below same. elim c.else-at-other.branch [
      | else-at-other-via-then-at-other+then-other-at+else-not-is_like w ↦ sym w.is_like.ensures ∙ w.if-not-is_like.false
      | else-at-other-via-then-at-other+else-other-at w ↦ absurd (grind (arith, w.if-other-at.false, same))
      | else-at-other-via-else-at-other w ↦ absurd (omega (arith, below, w.if-at-other.false))
    ])
