use Rattle.std.proofs.Common.{◌≡◌, ℕ, ◌∷◌, [], true, take, Contains, ◌⊎◌}
use Rattle.std.specs.Prelude.{◌↔◌}
use Rattle.rev_undeclared.specs.Stronger.{is_told}
use Rattle.rev_unlisted.specs.Answer.{IsToldOf}
use Rattle.rev_unlisted.proofs.answer.stronger.Given as goal

abbrev pub invariant-loop-told : goal.invariant-loop-told
invariant-loop-told l =
    (user path : ℕ) → Contains l.stronger (user ∷ path ∷ []) ↔ ((is_told l.conflicts user path ≡ true) ⊎ IsToldOf (take l.told-index l.undeclared) user path)
