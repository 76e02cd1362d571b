use Rattle.std.proofs.Common.{◌≡◌, List, ℕ, Contains, ◌⊎◌, ◌∷◌, [], subst}
use Rattle.std.specs.Prelude.{◌↔◌}
use Rattle.rev_conflicts.proofs.FoundLemmas.{added}
use Rattle.rev_undeclared.proofs.telling.Stronger.add.Goals as goal

pub returns : goal.returns
returns c = λ k.
    subst (λ (old : List (List ℕ)). Contains c.insert.new.self.keys k ↔ (Contains old k ⊎ (k ≡ c.args.user ∷ c.args.path ∷ []))) c.self.view_is
    (added c.self.inside.keys c.insert.new.self (c.args.user ∷ c.args.path ∷ []) c.in_ok-insert.ensures.updates.0 k)
