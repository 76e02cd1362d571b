use Rattle.std.proofs.Common.{◌≡◌, ◌+◌, ◌<◌, ℕ, get_or, length, Contains, ◌⊎◌, sym, ap, subst, ◌∙◌, arith}
use Rattle.std.specs.Prelude.{All, ◌↔◌}
use Rattle.rev_ranks.specs.Graph.{graph_of, successors_of}
use Rattle.rev_conflicts.specs.Tables.{SomeBelow}
use Rattle.rev_conflicts.proofs.MeetLemmas.{all-at, at-number}
use Rattle.rev_conflicts.proofs.Some.{either-more, some-more}
use Rattle.rev_unlisted.specs.declared.input.Cover.{Cover}
use Rattle.rev_unlisted.specs.Answer.{unlisted_key}
use Rattle.rev_unlisted.specs.Found.{cover_by, met_by}
use Rattle.rev_unlisted.proofs.AnswerLemmas.{KeyOne, keys-among}
use Rattle.rev_unlisted.proofs.answer.add_each.Goals as goal

pub cover-requires-clause-sure_makers : goal.cover-requires-clause-sure_makers
cover-requires-clause-sure_makers c = λ k d within.
    let place : get_or c.args.files.now c.loop-path.path-index 0 < length c.args.makers.now = c.requires.files c.loop-path.path-index 0 c.loop-path-test.true in
    let all : All (λ e. e < length c.args.graph.now.manifest.builds) c.as_slice-makers.result.now =
    all-at (λ e. e < length c.args.graph.now.manifest.builds) c.args.makers.now (get_or c.args.files.now c.loop-path.path-index 0) c.index-makers-path.result c.as_slice-makers.result.now place c.index-makers-path.is c.as_slice-makers.ensures.value c.requires.makers in
    let below : get_or c.as_slice-makers.result.now k d < length c.args.graph.now.manifest.builds = all k d within in
    omega (arith, below, c.requires.nodes, c.requires.sure)

pub loop-path-preserved : goal.loop-path-preserved
loop-path-preserved c = λ k.
    let path : ℕ = get_or c.args.files.now c.loop-path.path-index 0 in
    let place : get_or c.args.files.now c.loop-path.path-index 0 < length c.args.makers.now = c.requires.files c.loop-path.path-index 0 c.loop-path-test.true in
    let makers : c.as_slice-makers.result.now ≡ successors_of (graph_of c.args.makers.now) (get_or c.args.files.now c.loop-path.path-index 0) =
    c.as_slice-makers.ensures.value ∙ sym (at-number c.args.makers.now (get_or c.args.files.now c.loop-path.path-index 0) c.index-makers-path.result place c.index-makers-path.is) in
    let cover : c.cover.result
    ≡ cover_by (met_by (successors_of (graph_of c.args.makers.now) (get_or c.args.files.now c.loop-path.path-index 0)) (length c.args.graph.now.manifest.builds + get_or c.args.files.now c.loop-path.path-index 0) c.args.sure.now)
    (met_by (successors_of (graph_of c.args.makers.now) (get_or c.args.files.now c.loop-path.path-index 0)) (length c.args.graph.now.manifest.builds + get_or c.args.files.now c.loop-path.path-index 0) c.args.met.now) =
    c.cover.ensures
    ∙ (λ i. cover_by (met_by (makers i) (c.edges-edges.ensures.edges i + get_or c.args.files.now c.loop-path.path-index 0) c.args.sure.now) (met_by (makers i) (c.edges-edges.ensures.edges i + get_or c.args.files.now c.loop-path.path-index 0) c.args.met.now)) in
    let same = ap (λ (m : Cover). unlisted_key (record { cover = m; user = c.args.user; path = get_or c.args.files.now c.loop-path.path-index 0; used_by = c.args.used_by })) cover in
    some-more (λ i. KeyOne (length c.args.graph.now.manifest.builds) (graph_of c.args.makers.now) c.args.sure.now c.args.met.now c.args.user c.args.used_by (get_or c.args.files.now i 0) k) c.loop-path.path-index (c.loop-path.invariant k)
    (either-more (c.in_ok-add.ensures k) (λ e. e ∙ same, λ e. e ∙ sym same))

pub returns : goal.returns
returns c = λ k.
    let all : c.loop-path.path-index ≡ length c.args.files.now = omega (arith, c.loop-path-test.false, c.loop-path.auto.path-index-end) in
    either-more
    (subst (λ n. Contains c.loop-path.found k ↔ (Contains c.args.found.now k ⊎ SomeBelow (λ i. KeyOne (length c.args.graph.now.manifest.builds) (graph_of c.args.makers.now) c.args.sure.now c.args.met.now c.args.user c.args.used_by (get_or c.args.files.now i 0) k) n)) all (c.loop-path.invariant k))
    (keys-among (length c.args.graph.now.manifest.builds) (graph_of c.args.makers.now) c.args.sure.now c.args.met.now c.args.user c.args.used_by c.args.files.now k)
