use Rattle.std.proofs.Common.{List, ℕ, ◌∷◌, [], Contains, sym, subst, ◌∙◌}
use Rattle.std.specs.Ordering.{nat_cmp}
use Rattle.std.specs.Cmp.Lexicographic.{nat_list_cmp_total}
use Rattle.std.specs.FinMap.{slice_cmp-IsAntisymmetric, nat_cmp-IsAntisymmetric}
use Rattle.std.proofs.lemmas.Map.Views.{btree_set_contains_iff}
use Rattle.rev_undeclared.proofs.telling.Stronger.has.Goals as goal

pub returns : goal.returns
returns c =
    let key : List ℕ = c.args.user ∷ c.args.path ∷ [] in
    let iff = btree_set_contains_iff nat_list_cmp_total (slice_cmp-IsAntisymmetric nat_cmp-IsAntisymmetric) c.self.inside.keys (c.args.user ∷ c.args.path ∷ []) in (
      λ h. subst (λ (ks : List (List ℕ)). Contains ks (c.args.user ∷ c.args.path ∷ [])) c.self.view_is (iff.0 (sym c.contains.ensures ∙ h)),
      λ m. c.contains.ensures ∙ iff.1 (subst (λ (ks : List (List ℕ)). Contains ks (c.args.user ∷ c.args.path ∷ [])) (sym c.self.view_is) m),
    )
