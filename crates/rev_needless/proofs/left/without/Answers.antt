use Rattle.std.proofs.Common.{◌≡◌, ℕ, map, length, sym, ap, ◌∙◌, arith}
use Rattle.std.specs.List.{range_with_len}
use Rattle.rev_ranks.specs.Graph.{graph_of, successors_of}
use Rattle.rev_ranks.proofs.Ways.{nodes_are, successors_are}
use Rattle.rev_needless.specs.Without.{left_of, marks_in, marks_of, without}
use Rattle.rev_needless.proofs.ListLemmas.{lists-next}
use Rattle.rev_needless.proofs.WithoutLemmas.{each-left, inside-left, row-left}
use Rattle.rev_needless.proofs.left.without.Goals as goal

pub loop-node-preserved : goal.loop-node-preserved
loop-node-preserved c =
    lists-next (λ n. left_of (successors_of (graph_of c.args.steps.now) n) (marks_of (marks_in c.args.gone.now) n)) c.loop-node.node c.loop-node.left.items c.push.new.self.items c.in_ok-row.row c.loop-node.invariant
    (row-left (graph_of c.args.steps.now) (marks_in c.args.gone.now) c.loop-node.node c.deref.result.now c.marks_of-marks.result.now c.in_ok-row.row.items
    (c.deref.ensures.value ∙ sym (successors_are c.args.steps.now c.loop-node.node c.index-steps-node.result c.loop-node-test.true c.index-steps-node.is)) c.marks_of-marks.ensures c.in_ok-row.ensures)
    c.in_ok-push.ensures.items

pub returns-clause-graph : goal.returns-clause-graph
returns-clause-graph c =
    let all : c.loop-node.node ≡ length (graph_of c.args.steps.now) = omega (arith, nodes_are c.args.steps.now) in
    c.loop-node.invariant ∙ ap (λ k. map (λ n. left_of (successors_of (graph_of c.args.steps.now) n) (marks_of (marks_in c.args.gone.now) n)) (range_with_len 0 k)) all

pub returns-clause-each : goal.returns-clause-each
returns-clause-each c =
    let all : c.loop-node.node ≡ length (graph_of c.args.steps.now) = omega (arith, nodes_are c.args.steps.now) in
    each-left c.args.steps.now c.loop-node.left.items (marks_in c.args.gone.now)
    (c.loop-node.invariant ∙ ap (λ k. map (λ n. left_of (successors_of (graph_of c.args.steps.now) n) (marks_of (marks_in c.args.gone.now) n)) (range_with_len 0 k)) all)

pub returns-clause-inside : goal.returns-clause-inside
returns-clause-inside c = λ inside.
    let all : c.loop-node.node ≡ length (graph_of c.args.steps.now) = omega (arith, nodes_are c.args.steps.now) in
    inside-left c.args.steps.now c.loop-node.left.items (marks_in c.args.gone.now) inside
    (c.loop-node.invariant ∙ ap (λ k. map (λ n. left_of (successors_of (graph_of c.args.steps.now) n) (marks_of (marks_in c.args.gone.now) n)) (range_with_len 0 k)) all)
