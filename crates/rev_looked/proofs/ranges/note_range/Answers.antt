use Rattle.std.proofs.Common.{◌≡◌, ◌+◌, None, length, get_or, ap, ◌∙◌, arith}
use Rattle.std.specs.Prelude.{min}
use Rattle.rev_looked.specs.Ranges.{noted}
use Rattle.rev_looked.proofs.NoteLemmas.{past-all}
use Rattle.rev_looked.proofs.ranges.note_range.Goals as goal

pub returns : goal.returns
returns g c = λ p within.
    let end : c.loop-path.path ≡ min (c.args.range.last + 1) (length c.args.notes.now) = omega arith in
    c.loop-path.invariant p within
    ∙ ap (λ b. noted b c.args.value (get_or c.args.notes.now p None))
    (past-all c.args.range (length c.args.notes.now) c.loop-path.path p within end)
