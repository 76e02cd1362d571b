use Rattle.std.proofs.Common.{◌++◌, List, ℕ, ◌∙◌}
use Rattle.rev_graph.specs.Graph.{build_at}
use Rattle.rev_unlisted.specs.Follows.{makers_of, path_nodes}
use Rattle.rev_unlisted.proofs.FollowLemmas.{makers-append, nodes-append, six}
use Rattle.rev_unlisted.proofs.follows.follow.Goals as goal

pub returns : goal.returns
returns c =
    let builds = c.args.graph.now.manifest.builds in
    let F : List (List ℕ) → List ℕ = makers_of c.args.graph.now.manifest.builds c.args.sure in
    let build = build_at c.args.graph.now.manifest.builds c.args.edge in
    let E = c.inputs-inputs.ensures in
    six (makers_of builds c.args.sure) (path_nodes c.edges-edges.result c.args.paths.now) (makers-append builds c.args.sure) (nodes-append c.edges-edges.result c.args.paths.now)
    c.inputs-inputs.result.explicit.now c.inputs-inputs.result.implicit.now c.args.list.now c.new-steps.result.items c.push_makers.new.steps.items c.push_makers-2.new.steps.items c.push_makers-3.new.steps.items
    c.push_paths.new.steps.items c.push_paths-2.new.steps.items c.push_paths-3.new.steps.items c.new-steps.ensures.items c.in_ok-push_makers.ensures c.in_ok-push_makers-2.ensures c.in_ok-push_makers-3.ensures
    c.in_ok-push_paths.ensures c.in_ok-push_paths-2.ensures c.in_ok-push_paths-3.ensures
    ∙ (λ i. makers_of builds c.args.sure (E.explicit i ++ E.implicit i ++ c.args.list.now) ++ path_nodes (c.edges-edges.ensures.edges i) c.args.paths.now (E.explicit i ++ E.implicit i ++ c.args.list.now))
