use Rattle.std.proofs.Common.{◌≡◌, List, length, take, true, arith, subst, ap, ◌∙◌, Contains, ◌⊎◌}
use Rattle.std.specs.Prelude.{◌↔◌}
use Rattle.std.proofs.Math.Seq.{take-length}
use Rattle.std.proofs.lemmas.List.{get_or_default}
use Rattle.rev_conflicts.specs.Ranges.{has_path}
use Rattle.rev_observed.specs.declared.path_set.PathRange.{PathRange}
use Rattle.rev_conflicts.proofs.NumberLemmas.{ranges-more}
use Rattle.rev_conflicts.proofs.doing.add_ranges.Goals as goal

pub loop-range-preserved : goal.loop-range-preserved
loop-range-preserved c = λ n.
    ranges-more c.args.ranges.now c.loop-range.range-index n _ c.loop-range-test.true (get_or_default c.args.ranges.now c.loop-range.range-index _ _ c.loop-range-test.true) (c.loop-range.invariant n) (c.in_ok-add_range.ensures n)

pub returns : goal.returns
returns c = λ n.
    let all : c.loop-range.range-index ≡ length c.args.ranges.now = omega (arith, c.loop-range-test.false, c.loop-range.auto.range-index-end) in
    subst (λ (rs : List PathRange). Contains c.loop-range.numbers.items n ↔ (Contains c.args.numbers.now.items n ⊎ (has_path rs n ≡ true))) (ap (λ k. take k c.args.ranges.now) all ∙ take-length c.args.ranges.now) (c.loop-range.invariant n)
