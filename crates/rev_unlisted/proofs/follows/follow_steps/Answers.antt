use Rattle.std.proofs.Common.{◌≡◌, ◌++◌, ◌<◌, List, ℕ, [], get_or, length, map, sym, ap, ◌∙◌, arith}
use Rattle.std.specs.Prelude.{replicate}
use Rattle.std.specs.List.{range_with_len}
use Rattle.std.specs.Borrow.{Bor}
use Rattle.std.proofs.lemmas.List.{append-nil, get_or-map}
use Rattle.rev_graph.specs.Graph.{build_at}
use Rattle.rev_unlisted.specs.Follows.{follow_of, makers_of, path_nodes}
use Rattle.rev_unlisted.specs.Found.{names_of}
use Rattle.rev_unlisted.proofs.FollowLemmas.{edges-more, paths-more}
use Rattle.rev_unlisted.proofs.follows.follow_steps.Goals as goal

pub loop-edge-preserved : goal.loop-edge-preserved
loop-edge-preserved c =
    let builds = c.args.graph.now.manifest.builds in
    let edge = c.loop-edge.edge in
    let within : c.loop-edge.edge < length c.args.lists.now = omega (arith, c.loop-edge-test.true, c.edges-edge-end.ensures.edges, c.requires.each) in
    let here : c.index-lists-edge.result.now ≡ get_or (names_of c.args.lists.now) c.loop-edge.edge [] =
    ap (λ (s : Bor (List (List ℕ))). s.now) c.index-lists-edge.is ∙ sym (get_or-map (λ (s : Bor (List (List ℕ))). s.now) c.args.lists.now edge c.index-lists-edge.result [] within) in
    edges-more (follow_of builds (names_of c.args.lists.now) c.args.paths.now c.args.sure) c.loop-edge.steps.items c.push.new.self.items c.in_ok-follow.field-0 edge c.loop-edge.invariant c.in_ok-push.ensures.items
    (c.in_ok-follow.ensures
    ∙ ap (λ (l : List (List ℕ)). makers_of builds c.args.sure ((build_at builds edge).explicit ++ (build_at builds edge).implicit ++ l) ++ path_nodes (length builds) c.args.paths.now ((build_at builds edge).explicit ++ (build_at builds edge).implicit ++ l)) here)

pub loop-path-init : goal.loop-path-init
loop-path-init c =
    let builds = c.args.graph.now.manifest.builds in
    let F : ℕ → List ℕ = follow_of c.args.graph.now.manifest.builds (names_of c.args.lists.now) c.args.paths.now c.args.sure in
    let all : c.loop-edge.edge ≡ length c.args.graph.now.manifest.builds = omega (arith, c.loop-edge-test.false, c.loop-edge.auto.edge-end, c.edges-edge-end.ensures.edges) in
    c.loop-edge.invariant ∙ ap (λ n. map (follow_of builds (names_of c.args.lists.now) c.args.paths.now c.args.sure) (range_with_len 0 n)) all
    ∙ sym (append-nil (map (follow_of builds (names_of c.args.lists.now) c.args.paths.now c.args.sure) (range_with_len 0 (length builds))))

pub loop-path-preserved : goal.loop-path-preserved
loop-path-preserved c =
    paths-more (map (follow_of c.args.graph.now.manifest.builds (names_of c.args.lists.now) c.args.paths.now c.args.sure) (range_with_len 0 (length c.args.graph.now.manifest.builds)))
    c.loop-path.steps.items c.push-in-loop-path.new.self.items c.new.result c.loop-path.path c.loop-path.invariant c.in_ok-push-2.ensures.items c.new.ensures.items

pub returns : goal.returns
returns c =
    let all : c.loop-path.path ≡ length c.args.paths.now = omega (arith, c.loop-path-test.false, c.loop-path.auto.path-end, c.len-count.ensures.len) in
    c.loop-path.invariant
    ∙ ap (λ n. map (follow_of c.args.graph.now.manifest.builds (names_of c.args.lists.now) c.args.paths.now c.args.sure) (range_with_len 0 (length c.args.graph.now.manifest.builds)) ++ replicate n []) all
