use Rattle.std.proofs.Common.{◌≡◌, ◌++◌, List, IfOk, IfSome, map, take, drop, sym, ap, subst, ◌∙◌}
use Rattle.std.proofs.lemmas.List.{map-append, take-append-drop}
use Rattle.rev_manifest.specs.Declarations.{DeclaredEdgeValue}
use Rattle.rev_manifest.specs.Manifest.{AreEnded}
use Rattle.rev_manifest.specs.Held.{seen_edge}
use Rattle.rev_manifest.proofs.parallel.+builds_on+fn-builds_on-join+arg2+fn-builds_on-join+arg3.Goals as goal

pub returns : goal.returns
returns g t c =
    let scopes = c.args.scopes.now in
    let pools = c.args.pools.now in
    let front = c.shrink_to_fit.new.self.items in
    let back = c.in_ok-others.others.items in
    let edges = c.args.edges.items in
    let place = c.min-place.result in
    let both = c.joined.ensures scopes pools (map seen_edge front) (map seen_edge back) c.join-earlier.ensures.first c.join-earlier.ensures.second in
    let whole : map seen_edge front ++ map seen_edge back ≡ map seen_edge edges =
    (λ i. map seen_edge ((c.shrink_to_fit.ensures.items ∙ c.in_ok-others.ensures.items) i) ++ map seen_edge (c.in_ok-others.ensures.tail i))
    ∙ sym (map-append seen_edge (take place edges) (drop place edges)) ∙ ap (map seen_edge) (take-append-drop place edges) in
    subst (λ (es : List DeclaredEdgeValue). IfOk c.joined.result (λ found. IfSome found (λ ended. AreEnded scopes pools c.args.room ended.left es ended.builds.items))) whole both
