use Rattle.std.proofs.Common.{◌≡◌, List, ℕ, Contains, ◌⊎◌, ◌∷◌, [], ap, subst, sym, ◌∙◌}
use Rattle.std.specs.Prelude.{◌↔◌}
use Rattle.rev_conflicts.proofs.FoundLemmas.{added}
use Rattle.rev_conflicts.proofs.Some.{either-more}
use Rattle.rev_unlisted.specs.Answer.{unlisted_key}
use Rattle.rev_unlisted.proofs.found.Found.add.Goals as goal

pub returns : goal.returns
returns c = λ k.
    let t = c.args.told.now in
    let n = c.cover_number-cover.result in
    let same : c.args.told.now.user ∷ c.args.told.now.path ∷ c.args.told.now.used_by ∷ c.cover_number-cover.result ∷ [] ≡ unlisted_key c.args.told.now =
    ap (λ m. t.user ∷ t.path ∷ t.used_by ∷ m ∷ []) c.cover_number-cover.ensures in
    either-more
    (subst (λ (old : List (List ℕ)). Contains c.insert.new.self.keys k ↔ (Contains old k ⊎ (k ≡ t.user ∷ t.path ∷ t.used_by ∷ n ∷ []))) c.self.view_is
    (added c.self.inside.keys c.insert.new.self (t.user ∷ t.path ∷ t.used_by ∷ n ∷ []) c.in_ok-insert.ensures.updates.0 k))
    (λ e. e ∙ same, λ e. e ∙ sym same)
