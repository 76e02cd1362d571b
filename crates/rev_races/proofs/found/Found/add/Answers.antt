use Rattle.rev_races.proofs.FoundLemmas.{added}
use Rattle.std.proofs.Common.{◌≡◌, List, ℕ, Contains, ◌⊎◌, ◌∷◌, [], subst}
use Rattle.std.specs.Prelude.{◌↔◌}
use Rattle.rev_races.proofs.found.Found.add.Goals as goal

pub returns : goal.returns
returns c = λ k.
    subst (λ (old : List (List ℕ)). Contains c.insert.new.self.keys k ↔ (Contains old k ⊎ (k ≡ c.args.maker ∷ c.args.user ∷ c.args.place ∷ []))) c.self.view_is
    (added c.self.inside.keys c.insert.new.self (c.args.maker ∷ c.args.user ∷ c.args.place ∷ []) c.in_ok-insert.ensures.updates.0 k)
