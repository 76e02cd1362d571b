use Rattle.std.proofs.Common.{◌≡◌, ◌<◌, ◌++◌, List, ℕ, [], get_or, length, sym, ap, ◌∙◌, arith}
use Rattle.std.specs.Borrow.{Bor}
use Rattle.std.proofs.lemmas.List.{get_or-map}
use Rattle.rev_graph.specs.Graph.{build_at}
use Rattle.rev_places.specs.Names.{own_names_in}
use Rattle.rev_unlisted.specs.Found.{names_of}
use Rattle.rev_unlisted.specs.Joined.{extended_at, extended_of}
use Rattle.rev_unlisted.proofs.JoinLemmas.{extended-more}
use Rattle.rev_unlisted.proofs.joining.extended_lists.Goals as goal

pub loop-edge-preserved : goal.loop-edge-preserved
loop-edge-preserved c =
    let builds = c.args.graph.now.manifest.builds in
    let names = c.args.names.now.entries in
    let edge = c.loop-edge.edge in
    let within : c.loop-edge.edge < length c.args.lists.now = omega (arith, c.loop-edge-test.true, c.edges-edge-end.ensures.edges, c.requires) in
    let here : c.index-lists-edge.result.now ≡ get_or (names_of c.args.lists.now) c.loop-edge.edge [] =
    ap (λ (s : Bor (List (List ℕ))). s.now) c.index-lists-edge.is ∙ sym (get_or-map (λ (s : Bor (List (List ℕ))). s.now) c.args.lists.now edge c.index-lists-edge.result [] within) in
    extended-more (extended_at builds (names_of c.args.lists.now) names) c.loop-edge.all.items c.push.new.self.items c.in_ok-extended_list.field-0 edge
    c.loop-edge.invariant c.in_ok-push.ensures.items
    (c.in_ok-extended_list.ensures
    ∙ ap (λ (l : List (List ℕ)). extended_of l (own_names_in names ((build_at builds edge).explicit ++ (build_at builds edge).implicit ++ l))) here)
