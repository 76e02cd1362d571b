use Rattle.std.proofs.Common.{◌≡◌, ◌<◌, List, ℕ, get_or, length, Contains, refl, sym, subst, ◌∙◌, arith}
use Rattle.std.specs.Prelude.{◌↔◌}
use Rattle.rev_ranks.specs.Graph.{graph_of, successors_of}
use Rattle.rev_conflicts.proofs.MeetLemmas.{all-at, at-number}
use Rattle.rev_unlisted.specs.Found.{IsKeyBelow}
use Rattle.rev_unlisted.proofs.AnswerLemmas.{below-more, below-none}
use Rattle.rev_unlisted.proofs.answer.found_of.Goals as goal

pub add_of-requires-clause-files : goal.add_of-requires-clause-files
add_of-requires-clause-files c =
    all-at (λ p. p < length c.args.makers.now) c.args.reads.now c.loop-number.number c.index-reads-number.result c.as_slice-files.result.now c.loop-number-test.true c.index-reads-number.is c.as_slice-files.ensures.value c.requires.files

pub loop-number-init : goal.loop-number-init
loop-number-init c = λ k.
    subst (λ (ks : List (List ℕ)). Contains ks k ↔ IsKeyBelow (length c.args.graph.now.manifest.builds) (graph_of c.args.steps.now) (graph_of c.args.sure_steps.now) (graph_of c.args.makers.now) c.args.edges.now (graph_of c.args.reads.now) 0 k) (sym c.new-found.ensures)
    (below-none (length c.args.graph.now.manifest.builds) (graph_of c.args.steps.now) (graph_of c.args.sure_steps.now) (graph_of c.args.makers.now) c.args.edges.now (graph_of c.args.reads.now) k)

pub loop-number-preserved : goal.loop-number-preserved
loop-number-preserved c = λ k.
    let here : c.as_slice-files.result.now ≡ successors_of (graph_of c.args.reads.now) c.loop-number.number =
    c.as_slice-files.ensures.value ∙ sym (at-number c.args.reads.now c.loop-number.number c.index-reads-number.result c.loop-number-test.true c.index-reads-number.is) in
    below-more (length c.args.graph.now.manifest.builds) (graph_of c.args.steps.now) (graph_of c.args.sure_steps.now) (graph_of c.args.makers.now) c.args.edges.now (graph_of c.args.reads.now) c.loop-number.number (get_or c.args.edges.now c.loop-number.number 0) c.as_slice-files.result.now k here refl
    (c.loop-number.invariant k) (c.in_ok-add_of.ensures k)

pub returns : goal.returns
returns c = λ k.
    let all : c.loop-number.number ≡ length c.args.reads.now = omega (arith, c.loop-number-test.false, c.loop-number.auto.number-end) in
    subst (λ n. Contains c.loop-number.found k ↔ IsKeyBelow (length c.args.graph.now.manifest.builds) (graph_of c.args.steps.now) (graph_of c.args.sure_steps.now) (graph_of c.args.makers.now) c.args.edges.now (graph_of c.args.reads.now) n k) all (c.loop-number.invariant k)
