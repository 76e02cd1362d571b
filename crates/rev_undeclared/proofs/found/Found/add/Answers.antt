use Rattle.std.proofs.Common.{◌≡◌, List, ℕ, Contains, ◌⊎◌, ◌∷◌, [], get_or, subst, sym, ◌∙◌}
use Rattle.std.specs.Prelude.{◌↔◌}
use Rattle.rev_conflicts.proofs.FoundLemmas.{added}
use Rattle.rev_conflicts.proofs.Some.{either-more}
use Rattle.rev_undeclared.specs.Answer.{undeclared_key}
use Rattle.rev_undeclared.proofs.FoundLemmas.{key-of}
use Rattle.rev_undeclared.proofs.found.Found.add.Goals as goal

pub returns : goal.returns
returns c = λ k.
    let t = c.args.told.now in
    let ks = c.kind_numbers-kind.result in
    let same : c.args.told.now.maker ∷ c.args.told.now.user ∷ c.args.told.now.path ∷ c.args.told.now.made_by ∷ get_or c.kind_numbers-kind.result 0 0 ∷ get_or c.kind_numbers-kind.result 1 0 ∷ get_or c.kind_numbers-kind.result 2 0 ∷ [] ≡ undeclared_key c.args.told.now =
    key-of ks t.kind t.maker t.user t.path t.made_by c.kind_numbers-kind.ensures in
    either-more
    (subst (λ (old : List (List ℕ)). Contains c.insert.new.self.keys k ↔ (Contains old k ⊎ (k ≡ t.maker ∷ t.user ∷ t.path ∷ t.made_by ∷ get_or ks 0 0 ∷ get_or ks 1 0 ∷ get_or ks 2 0 ∷ []))) c.self.view_is
    (added c.self.inside.keys c.insert.new.self (t.maker ∷ t.user ∷ t.path ∷ t.made_by ∷ get_or ks 0 0 ∷ get_or ks 1 0 ∷ get_or ks 2 0 ∷ []) c.in_ok-insert.ensures.updates.0 k))
    (λ e. e ∙ same, λ e. e ∙ sym same)
