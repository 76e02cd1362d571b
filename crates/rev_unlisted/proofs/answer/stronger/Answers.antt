use Rattle.std.proofs.Common.{◌≡◌, List, [], ◌∷◌, true, length, take, Contains, ◌⊎◌, ap, subst, ◌∙◌, arith}
use Rattle.std.specs.Prelude.{◌↔◌}
use Rattle.std.proofs.Math.Seq.{take-length}
use Rattle.std.proofs.lemmas.List.{get_or_default}
use Rattle.rev_undeclared.specs.declared.kind.Undeclared.{Undeclared}
use Rattle.rev_undeclared.specs.Stronger.{is_told}
use Rattle.rev_unlisted.specs.Answer.{IsToldOf}
use Rattle.rev_unlisted.proofs.AnswerLemmas.{told-more, told-none}
use Rattle.rev_unlisted.proofs.answer.stronger.Goals as goal

pub loop-told-init : goal.loop-told-init
loop-told-init c = λ user path. told-none (is_told c.args.conflicts.now user path ≡ true) user path (c.in_ok-stronger.ensures user path)

pub loop-told-preserved : goal.loop-told-preserved
loop-told-preserved c = λ user path.
    told-more (is_told c.args.conflicts.now user path ≡ true) c.args.undeclared.now c.loop-told.told-index user path _ c.loop-told-test.true (get_or_default c.args.undeclared.now c.loop-told.told-index _ _ c.loop-told-test.true)
    (c.loop-told.invariant user path) (c.in_ok-add.ensures (user ∷ path ∷ []))

pub returns : goal.returns
returns c = λ user path.
    let all : c.loop-told.told-index ≡ length c.args.undeclared.now = omega (arith, c.loop-told-test.false, c.loop-told.auto.told-index-end) in
    subst (λ (us : List Undeclared). Contains c.loop-told.stronger (user ∷ path ∷ []) ↔ ((is_told c.args.conflicts.now user path ≡ true) ⊎ IsToldOf us user path)) (ap (λ n. take n c.args.undeclared.now) all ∙ take-length c.args.undeclared.now)
    (c.loop-told.invariant user path)
