use Rattle.std.proofs.Common.{◌≡◌, ◌<◌, List, length, take, true, arith, subst, ap, ◌∙◌, Contains, ◌⊎◌}
use Rattle.std.specs.Prelude.{◌↔◌}
use Rattle.std.proofs.Math.Seq.{take-length}
use Rattle.std.proofs.lemmas.List.{get_or_default}
use Rattle.rev_entry_conflicts.specs.declared.deed.Deed.{Deed}
use Rattle.rev_entry_conflicts.specs.Touches.{touched_by}
use Rattle.rev_entry_conflicts.proofs.TouchLemmas.{deeds-more}
use Rattle.rev_entry_conflicts.proofs.touch.add_deeds.Goals as goal

pub loop-deed-preserved : goal.loop-deed-preserved
loop-deed-preserved c = λ n.
    deeds-more c.args.deeds.now c.loop-deed.deed-index n c.args.count _ c.loop-deed-test.true (get_or_default c.args.deeds.now c.loop-deed.deed-index _ _ c.loop-deed-test.true) (c.loop-deed.invariant n) (c.in_ok-add_deed.ensures n)

pub returns : goal.returns
returns c = λ n.
    let all : c.loop-deed.deed-index ≡ length c.args.deeds.now = omega (arith, c.loop-deed-test.false, c.loop-deed.auto.deed-index-end) in
    subst (λ (ds : List Deed). Contains c.loop-deed.numbers.items n ↔ (Contains c.args.numbers.now.items n ⊎ ((n < c.args.count) × (touched_by ds n ≡ true)))) (ap (λ k. take k c.args.deeds.now) all ∙ take-length c.args.deeds.now) (c.loop-deed.invariant n)
