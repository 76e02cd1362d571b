use Rattle.std.proofs.Common.{◌≡◌, ℕ, List, ◌∷◌, [], length, take, true, ap, subst, ◌∙◌, arith, Contains}
use Rattle.std.specs.Prelude.{◌↔◌}
use Rattle.std.proofs.Math.Seq.{take-length}
use Rattle.std.proofs.lemmas.List.{get_or_default}
use Rattle.rev_conflicts.specs.declared.conflict.Conflict.{Conflict}
use Rattle.rev_undeclared.specs.Stronger.{is_told}
use Rattle.rev_undeclared.proofs.StrongerLemmas.{told-more}
use Rattle.rev_undeclared.proofs.telling.told_by.Goals as goal

pub loop-conflict-preserved : goal.loop-conflict-preserved
loop-conflict-preserved c = λ user path.
    told-more c.args.conflicts.now c.loop-conflict.conflict-index user path _ c.loop-conflict-test.true (get_or_default c.args.conflicts.now c.loop-conflict.conflict-index _ _ c.loop-conflict-test.true)
    (c.loop-conflict.invariant user path) (c.in_ok-add_conflict.ensures user path)

pub returns : goal.returns
returns c = λ user path.
    let all : c.loop-conflict.conflict-index ≡ length c.args.conflicts.now = omega (arith, c.loop-conflict-test.false, c.loop-conflict.auto.conflict-index-end) in
    subst (λ (cs : List Conflict). Contains c.loop-conflict.stronger (user ∷ path ∷ []) ↔ (is_told cs user path ≡ true)) (ap (λ n. take n c.args.conflicts.now) all ∙ take-length c.args.conflicts.now) (c.loop-conflict.invariant user path)
