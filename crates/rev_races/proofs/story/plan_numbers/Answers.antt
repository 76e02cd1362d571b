use Rattle.std.proofs.Common.{◌≡◌, ℕ, ◌+◌, ◌<◌, List, [], ◌∷◌, ◌++◌, length, get_or, take, sym, ap, subst, ◌∙◌}
use Rattle.std.proofs.lemmas.List.{take_more}
use Rattle.rev_races.specs.Stories.{ArePlansBy}
use Rattle.rev_races.proofs.story.plan_numbers.Goals as goal

pub loop-number-preserved : goal.loop-number-preserved
loop-number-preserved c =
    let t = c.args.history.now.timeline in
    let i = c.loop-number.number-index in
    let within : c.loop-number.number-index < length c.args.history.now.timeline.kept =
    subst (λ (xs : List ℕ). c.loop-number.number-index < length xs) c.kept-number-items.ensures.kept c.loop-number-test.true in
    let grown : take (c.loop-number.number-index + 1) c.args.history.now.timeline.kept ≡ take c.loop-number.number-index c.args.history.now.timeline.kept ++ get_or c.kept-number-items.result.now c.loop-number.number-index 0 ∷ [] =
    take_more t.kept i 0 within ∙ ap (λ (xs : List ℕ). take i t.kept ++ get_or xs i 0 ∷ []) (sym c.kept-number-items.ensures.kept) in
    subst (λ (ks : List ℕ). ArePlansBy t ks c.add_plan.new.plans.items) (sym grown) (c.in_ok-add_plan.ensures (take i t.kept) c.loop-number.invariant)
