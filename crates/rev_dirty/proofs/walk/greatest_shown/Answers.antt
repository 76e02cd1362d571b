use Rattle.std.proofs.Common.{◌≡◌, ◌∙◌, max, arith}
use Rattle.rev_dirty.specs.Walk.{shown}
use Rattle.rev_dirty.proofs.WalkLemmas.{greatest-more}
use Rattle.rev_dirty.proofs.walk.greatest_shown.Goals as goal
use Rattle.rev_dirty.proofs.walk.greatest_shown.Goals.{then-stamp-newest, else-stamp-newest}

pub loop-input-preserved : goal.loop-input-preserved
loop-input-preserved c =
    let stamp = c.shown-stamp.result in
    let newest = c.loop-input.newest in
    let more =
    (λ i. max (c.loop-input.invariant i) (c.shown-stamp.ensures i)) ∙ greatest-more (shown c.args.known.now.entries) c.args.inputs.now c.loop-input.input-index _ c.loop-input-test.true in
    elim c.if-stamp-newest.branch [
      | then-stamp-newest w ↦
          let top : stamp ≡ max newest stamp = omega arith in
          w.newest-is ∙ top ∙ more
      | else-stamp-newest w ↦
          let top : newest ≡ max newest stamp = omega arith in
          w.newest-is ∙ top ∙ more
    ]
