use Rattle.std.proofs.Common.{sym, ap, ◌∙◌}
use Rattle.rev_needless.specs.Without.{left_at}
use Rattle.rev_needless.proofs.ListLemmas.{none-next, some-next}
use Rattle.rev_needless.proofs.left.left_of.Goals.{in-Some+in_ok-push, in_default}
use Rattle.rev_needless.proofs.left.left_of.Goals as goal

pub loop-place-preserved : goal.loop-place-preserved
loop-place-preserved c =
    elim c.match-left_at.branch [
      | in-Some+in_ok-push w ↦
          some-next (left_at c.args.nexts.now c.args.marks.now) c.loop-place.place w.in-Some.node c.loop-place.left.items c.match-left_at.left.items c.loop-place.invariant (sym c.left_at.ensures ∙ w.in-Some.is)
          (ap (λ v. v.items) w.left-is ∙ w.in_ok-push.ensures.items)
      | in_default w ↦
          ap (λ v. v.items) w.left-is ∙ none-next (left_at c.args.nexts.now c.args.marks.now) c.loop-place.place c.loop-place.left.items c.loop-place.invariant (sym c.left_at.ensures ∙ w.in_default.is)
    ]
