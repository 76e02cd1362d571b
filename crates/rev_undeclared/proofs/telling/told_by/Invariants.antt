use Rattle.std.proofs.Common.{◌≡◌, ℕ, List, ◌∷◌, [], take, true, Contains}
use Rattle.std.specs.Prelude.{◌↔◌}
use Rattle.rev_undeclared.specs.Stronger.{is_told}
use Rattle.rev_undeclared.proofs.telling.told_by.Given as goal

abbrev pub invariant-loop-conflict : goal.invariant-loop-conflict
invariant-loop-conflict l =
    (user path : ℕ) → Contains l.stronger (user ∷ path ∷ []) ↔ (is_told (take l.conflict-index l.conflicts) user path ≡ true)
