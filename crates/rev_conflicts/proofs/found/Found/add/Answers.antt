use Rattle.std.proofs.Common.{◌≡◌, List, ℕ, Contains, ◌⊎◌, ◌∷◌, [], get_or, subst, sym, ◌∙◌}
use Rattle.std.specs.Prelude.{◌↔◌}
use Rattle.rev_conflicts.specs.Tables.{told_key}
use Rattle.rev_conflicts.proofs.FoundLemmas.{added, key-of}
use Rattle.rev_conflicts.proofs.Some.{either-more}
use Rattle.rev_conflicts.proofs.found.Found.add.Goals as goal

pub returns : goal.returns
returns c = λ k.
    let t = c.args.told.now in
    let ps = c.place_numbers-place.result in
    let same : c.args.told.now.maker ∷ c.args.told.now.user ∷ get_or c.place_numbers-place.result 0 0 ∷ get_or c.place_numbers-place.result 1 0 ∷ c.args.told.now.made_by ∷ c.args.told.now.used_by ∷ [] ≡ told_key c.args.told.now =
    key-of ps t.place t.maker t.user t.made_by t.used_by c.place_numbers-place.ensures in
    either-more
    (subst (λ (old : List (List ℕ)). Contains c.insert.new.self.keys k ↔ (Contains old k ⊎ (k ≡ t.maker ∷ t.user ∷ get_or ps 0 0 ∷ get_or ps 1 0 ∷ t.made_by ∷ t.used_by ∷ []))) c.self.view_is
    (added c.self.inside.keys c.insert.new.self (t.maker ∷ t.user ∷ get_or ps 0 0 ∷ get_or ps 1 0 ∷ t.made_by ∷ t.used_by ∷ []) c.in_ok-insert.ensures.updates.0 k))
    (λ e. e ∙ same, λ e. e ∙ sym same)
