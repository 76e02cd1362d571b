use Rattle.std.proofs.Common.{◌≡◌, ◌+◌, ◌<◌, ℕ, get_or, length, inl, inr, sym, ap, subst, ◌∙◌, arith}
use Rattle.std.specs.Prelude.{All}
use Rattle.std.proofs.lemmas.Bool.{cases_eq}
use Rattle.std.proofs.lemmas.List.{get_or_default}
use Rattle.rev_ranks.specs.Graph.{graph_of, successors_of}
use Rattle.rev_conflicts.proofs.MeetLemmas.{all-at, at-number}
use Rattle.rev_unlisted.specs.declared.input.Cover.TheVariants.{Neither}
use Rattle.rev_unlisted.specs.Found.{cover_by, met_by}
use Rattle.rev_unlisted.proofs.answer.are_neither.Goals as goal

pub cover-requires-clause-sure_makers : goal.cover-requires-clause-sure_makers
cover-requires-clause-sure_makers c = λ k d within.
    let place : get_or c.args.files.now c.loop-path.path-index 0 < length c.args.makers.now = c.requires.files c.loop-path.path-index 0 c.loop-path-test.true in
    let all : All (λ e. e < c.args.edges) c.as_slice-of.result.now =
    all-at (λ e. e < c.args.edges) c.args.makers.now (get_or c.args.files.now c.loop-path.path-index 0) c.index-makers-path.result c.as_slice-of.result.now place c.index-makers-path.is c.as_slice-of.ensures.value c.requires.makers in
    let below : get_or c.as_slice-of.result.now k d < c.args.edges = all k d within in
    omega (arith, below, c.requires.nodes, c.requires.sure)

pub loop-path-init : goal.loop-path-init
loop-path-init c = λ k below. absurd (omega (arith, below))

pub loop-path-preserved : goal.loop-path-preserved
loop-path-preserved c = λ k below.
    let path : ℕ = get_or c.args.files.now c.loop-path.path-index 0 in
    let place : get_or c.args.files.now c.loop-path.path-index 0 < length c.args.makers.now = c.requires.files c.loop-path.path-index 0 c.loop-path-test.true in
    let makers : c.as_slice-of.result.now ≡ successors_of (graph_of c.args.makers.now) (get_or c.args.files.now c.loop-path.path-index 0) =
    c.as_slice-of.ensures.value ∙ sym (at-number c.args.makers.now (get_or c.args.files.now c.loop-path.path-index 0) c.index-makers-path.result place c.index-makers-path.is) in
    elim (cases_eq k c.loop-path.path-index) [
      | inl same ↦
          subst (λ n. cover_by (met_by (successors_of (graph_of c.args.makers.now) (get_or c.args.files.now n 0)) (c.args.edges + get_or c.args.files.now n 0) c.args.sure.now)
          (met_by (successors_of (graph_of c.args.makers.now) (get_or c.args.files.now n 0)) (c.args.edges + get_or c.args.files.now n 0) c.args.met.now) ≡ Neither) (sym same)
          (ap (λ ms. cover_by (met_by ms (c.args.edges + get_or c.args.files.now c.loop-path.path-index 0) c.args.sure.now) (met_by ms (c.args.edges + get_or c.args.files.now c.loop-path.path-index 0) c.args.met.now)) (sym makers)
          ∙ sym c.cover.ensures ∙ c.is_neither.ensures.0 c.if-not-is_neither.false)
      | inr apart ↦ c.loop-path.invariant k (omega (arith, below, apart))
    ]

pub returns : goal.returns
returns c = λ is path among.
    let within = among.1 in
    let all : c.loop-path.path-index ≡ length c.args.files.now = omega (arith, c.loop-path-test.false, c.loop-path.auto.path-index-end) in
    let at : get_or c.args.files.now among.0 0 ≡ path = get_or_default c.args.files.now among.0 0 path among.1 ∙ among.2 in
    subst (λ p. cover_by (met_by (successors_of (graph_of c.args.makers.now) p) (c.args.edges + p) c.args.sure.now) (met_by (successors_of (graph_of c.args.makers.now) p) (c.args.edges + p) c.args.met.now) ≡ Neither) at
    (c.loop-path.invariant among.0 (omega (arith, within, all)))
