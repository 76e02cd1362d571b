use Rattle.std.proofs.Common.{◌-◌, min, length, take, drop, ap, ◌∙◌, arith}
use Rattle.rev_patch.proofs.HunkLemmas.{around-lines}
use Rattle.rev_patch.proofs.hunks.around.Goals as goal

pub returns : goal.returns
returns c =
    let rows = c.args.rows.now in
    let behind = c.split_at.result.1.now in
    let part = c.split_at-2.result.0.now in
    let to = c.saturating_add-to.result in
    around-lines rows behind part c.args.first c.args.last to _ (omega arith) (omega arith) c.saturating_add-to.ensures
    (c.split_at.ensures.back ∙ ap (λ n. drop n rows) (c.min.ensures ∙ ap (λ n. min n (length rows)) c.saturating_sub-from.ensures))
    (c.split_at-2.ensures.front ∙ ap (λ n. take n behind) (c.min-2.ensures ∙ ap (λ n. min n (length behind)) (c.saturating_sub.ensures ∙ ap (λ n. to - n) c.saturating_sub-from.ensures)))
