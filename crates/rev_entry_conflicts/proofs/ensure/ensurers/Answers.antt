use Rattle.std.proofs.Common.{◌≡◌, cond, [], ◌∷◌, ◌++◌, Some, sym, ap, ◌∙◌, append-nil}
use Rattle.std.proofs.lemmas.Option.{slice_get-get_or}
use Rattle.rev_entry_conflicts.specs.Ensures.{ensures_it, ensures_of}
use Rattle.rev_entry_conflicts.proofs.PairLemmas.{range-filter}
use Rattle.rev_entry_conflicts.proofs.ensure.ensurers.Goals.{then-here+in_ok-push, else-here}
use Rattle.rev_entry_conflicts.proofs.ensure.ensurers.Goals as goal

pub loop-number-preserved : goal.loop-number-preserved
loop-number-preserved c =
    let here : ensures_of c.args.commands.now c.args.entry c.loop-number.number ≡ c.does-here.result =
    ap (ensures_it c.args.entry) (slice_get-get_or c.args.commands.now c.loop-number.number c.index-commands-number.result c.loop-number-test.true ∙ ap Some (sym c.index-commands-number.is)) ∙ sym c.does-here.ensures in
    elim c.if-here.branch [
      | then-here+in_ok-push w ↦
          range-filter (ensures_of c.args.commands.now c.args.entry) c.loop-number.number c.loop-number.numbers.items c.if-here.numbers.items c.loop-number.invariant
          (ap (λ v. v.items) w.numbers-is ∙ w.in_ok-push.ensures.items ∙ ap (λ b. c.loop-number.numbers.items ++ cond b (c.loop-number.number ∷ []) []) (sym (here ∙ w.if-here.true)))
      | else-here w ↦
          range-filter (ensures_of c.args.commands.now c.args.entry) c.loop-number.number c.loop-number.numbers.items c.if-here.numbers.items c.loop-number.invariant
          (ap (λ v. v.items) w.numbers-is ∙ sym (ap (λ b. c.loop-number.numbers.items ++ cond b (c.loop-number.number ∷ []) []) (here ∙ w.if-here.false) ∙ append-nil c.loop-number.numbers.items))
    ]
