use Rattle.std.proofs.Common.{◌∙◌}
use Rattle.rev_manifest.proofs.MadeLemmas.{sum-over, sum-more}
use Rattle.rev_manifest.proofs.made.left_of_all.Goals as goal

pub returns-in_err-left : goal.returns-in_err-left
returns-in_err-left c =
    c.from_residual.ensures
    ∙ sum-over c.args.room c.loop-bytes.left c.args.lengths.now c.loop-bytes.bytes-index c.loop-bytes.invariant c.loop-bytes-test.true c.in_err-left.ensures

pub loop-bytes-preserved : goal.loop-bytes-preserved
loop-bytes-preserved c =
    sum-more c.args.room c.loop-bytes.left c.args.lengths.now c.loop-bytes.bytes-index c.loop-bytes.invariant c.loop-bytes-test.true c.in_ok-left.left c.in_ok-left.ensures.0 c.in_ok-left.ensures.1
