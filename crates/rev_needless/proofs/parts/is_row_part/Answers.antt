use Rattle.std.proofs.Common.{◌<◌, length, arith, sym, ◌∙◌, below_more}
use Rattle.rev_ranks.proofs.Marks.{marked_within}
use Rattle.rev_needless.proofs.StayLemmas.{implies-gives}
use Rattle.rev_needless.proofs.parts.is_row_part.Goals as goal

pub loop-place-preserved : goal.loop-place-preserved
loop-place-preserved c =
    below_more _ _ c.loop-place.invariant (λ m.
    sym c.mark_at-has_other.ensures
    ∙ implies-gives c.mark_at-has_one.result c.mark_at-has_other.result (sym c.implies-holds.ensures ∙ c.if-not-holds.false) (c.mark_at-has_one.ensures ∙ m))

pub returns : goal.returns
returns c = λ so k m.
    let within : k < length c.args.part.now = marked_within c.args.part.now k m in
    c.loop-place.invariant k (omega arith) m
