use Rattle.std.proofs.Common.{◌≡◌, ◌∙◌, sym, below_more, arith}
use Rattle.rev_workers.specs.Closing.{numbered}
use Rattle.rev_workers.proofs.closing.missing.Goals as goal

pub loop-number-preserved : goal.loop-number-preserved
loop-number-preserved g c =
    λ m less. below_more (λ k. numbered k c.args.lanes.now ≡ 1) c.loop-number.number c.loop-number.invariant (sym c.count_of.ensures ∙ c.if-count_of-ne1.false) m (omega arith)
