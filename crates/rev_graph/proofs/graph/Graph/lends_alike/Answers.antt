use Rattle.std.proofs.Common.{sym, ◌∙◌, ap, subst}
use Rattle.rev_manifest.specs.Builds.{ManifestValue}
use Rattle.rev_graph.specs.Alike.{LendAlike}
use Rattle.rev_graph.specs.Graph.{GraphValue}
use Rattle.rev_graph.proofs.AlikeLemmas.{lent_told}
use Rattle.rev_graph.proofs.graph.Graph.lends_alike.Goals as goal

pub returns : goal.returns
returns c =
    let told = lent_told c.self.inside.manifest c.other.inside.manifest in
    let m = ap (λ (g : GraphValue). g.manifest) c.self.view_is in
    let n = ap (λ (g : GraphValue). g.manifest) c.other.view_is in (
      λ h. subst (λ (x : ManifestValue). LendAlike x c.args.other.now.manifest) m (subst (λ (y : ManifestValue). LendAlike c.self.inside.manifest y) n (told.0 (sym c.same_lent.ensures ∙ h))),
      λ a. c.same_lent.ensures ∙ told.1 (subst (λ (x : ManifestValue). LendAlike x c.other.inside.manifest) (sym m) (subst (λ (y : ManifestValue). LendAlike c.args.self.now.manifest y) (sym n) a)),
    )
