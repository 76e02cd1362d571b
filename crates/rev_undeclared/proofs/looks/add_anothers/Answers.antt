use Rattle.std.proofs.Common.{◌≡◌, ℕ, ◌+◌, ◌<◌, List, length, get_or, Contains, ◌⊎◌, sym, subst, ◌∙◌, arith}
use Rattle.std.specs.Prelude.{◌↔◌}
use Rattle.rev_ranks.specs.Graph.{graph_of, successors_of}
use Rattle.rev_conflicts.specs.Tables.{SomeBelow}
use Rattle.rev_conflicts.proofs.Some.{either-more, some-more}
use Rattle.rev_conflicts.proofs.MeetLemmas.{all-at, at-number}
use Rattle.rev_undeclared.specs.Tables.{IsAnothersAt}
use Rattle.rev_undeclared.proofs.LookLemmas.{anothers-all, anothers-same}
use Rattle.rev_undeclared.proofs.looks.add_anothers.Goals as goal

pub add_anothers_at-requires-clause-commands : goal.add_anothers_at-requires-clause-commands
add_anothers_at-requires-clause-commands c =
    all-at (λ n. n < length c.args.edges.now) c.args.lists.now c.loop-path.path c.index-lists-path.result c.as_slice-commands.result.now (omega (arith, c.loop-path-test.true, c.len-path-end.ensures.len, c.requires.each)) c.index-lists-path.is c.as_slice-commands.ensures.value c.requires.within

pub loop-path-preserved : goal.loop-path-preserved
loop-path-preserved c = λ k.
    let builds = c.args.graph.now.manifest.builds in
    let paths = c.args.paths.now in
    let edges = c.args.edges.now in
    let told = c.args.stronger.now in
    let lists = c.args.lists.now in
    let n = c.loop-path.path in
    some-more (λ path. IsAnothersAt builds paths edges told path (successors_of (graph_of lists) path) k) n (c.loop-path.invariant k)
    (either-more (c.in_ok-add_anothers_at.ensures k)
    (anothers-same builds paths edges told n c.as_slice-commands.result.now (successors_of (graph_of lists) n) k
    (c.as_slice-commands.ensures.value ∙ sym (at-number lists n c.index-lists-path.result (omega (arith, c.loop-path-test.true, c.len-path-end.ensures.len, c.requires.each)) c.index-lists-path.is))))

pub returns : goal.returns
returns c = λ k.
    either-more (c.loop-path.invariant k)
    (anothers-all c.args.graph.now.manifest.builds c.args.paths.now c.args.edges.now c.args.stronger.now (graph_of c.args.lists.now) c.loop-path.path (length c.args.paths.now) k (omega (arith, c.loop-path-test.false, c.loop-path.auto.path-end, c.len-path-end.ensures.len)))
