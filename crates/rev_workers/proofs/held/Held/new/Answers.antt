use Rattle.std.proofs.Common.{rules, ◌≡◌, ℕ, zero, suc, ◌+◌, ◌<◌, refl, ap, ◌∙◌, arith, if◌then◌else◌}
use Rattle.std.proofs.lemmas.Bool.{ne_eqb}
use Rattle.rev_workers.specs.Tracks.{base_at, fresh}
use Rattle.rev_workers.specs.declared.standing.Standing.TheVariants as standing
use Rattle.rev_workers.specs.Waiting.{IsOutOfWay}
use Rattle.rev_workers.proofs.Each.{all-push, each_more}
use Rattle.rev_workers.proofs.held.Held.new.Goals as goal

-- the book's total after a lane's base: the first lane brings all entries, and the others none
raised : (number entries old base new : ℕ) → (number ≡ 0 → old ≡ 0) → (0 < number → old ≡ entries)
    → base ≡ base_at entries number → new ≡ old + base → new ≡ entries
raised zero entries old base new first others is sum =
    let none = first refl in
    let all : base ≡ entries = is in
    omega (arith, none, all, sum)
raised (suc n) entries old base new first others is sum =
    let all = others (omega arith) in
    let none : base ≡ 0 = is ∙ ap (λ t. if t then entries else 0) (ne_eqb (suc n) 0 (λ e. cc)) in
    omega (arith, none, all, sum)

pub loop-number-preserved : goal.loop-number-preserved
loop-number-preserved g c =
    let i = c.loop-number.invariant in record {
      parts = search rules;
      nothing = search rules;
      first = search rules;
      total = λ h. raised c.loop-number.number _ _ _ _ i.first i.total c.base_of.ensures c.add.ensures.total;
      standings = search rules;
      out = rw c.in_ok-push-2.ensures.items (all-push IsOutOfWay _ standing.Going i.out tt);
      count = search rules;
      lanes = rw c.in_ok-push.ensures.items (each_more (fresh _) _ _ _ i.count c.fresh.ensures i.lanes);
    }
