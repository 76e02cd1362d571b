use Rattle.std.proofs.Common.{◌≡◌, ◌<◌, ℕ, Bool, true, length, arith, sym, ap, subst, ◌∙◌}
use Rattle.std.specs.List.{list_all, range_with_len}
use Rattle.rev_ranks.specs.Graph.{graph_of, successors_of}
use Rattle.rev_ranks.proofs.Ways.{nodes_are}
use Rattle.rev_needless.specs.Staying.{row_stays}
use Rattle.rev_needless.proofs.ListLemmas.{all-fails, all-next}
use Rattle.rev_needless.proofs.staying.rows_stay.Goals as goal

pub loop-node-preserved : goal.loop-node-preserved
loop-node-preserved c =
    all-next (λ user. row_stays (graph_of c.args.before.now) (graph_of c.args.after.now) user (successors_of (graph_of c.args.rows.now) user)) c.loop-node.node c.loop-node.invariant
    (ap (row_stays (graph_of c.args.before.now) (graph_of c.args.after.now) c.loop-node.node) (sym c.row_of-row.ensures) ∙ sym c.in_ok-stays.ensures ∙ c.if-not-stays.false)

pub returns-then-not-stays : goal.returns-then-not-stays
returns-then-not-stays c =
    let within : c.loop-node.node < length (graph_of c.args.before.now) = omega (arith, nodes_are c.args.before.now, c.loop-node-test.true) in
    sym (all-fails (λ user. row_stays (graph_of c.args.before.now) (graph_of c.args.after.now) user (successors_of (graph_of c.args.rows.now) user)) c.loop-node.node (length (graph_of c.args.before.now)) within
    (ap (row_stays (graph_of c.args.before.now) (graph_of c.args.after.now) c.loop-node.node) (sym c.row_of-row.ensures) ∙ sym c.in_ok-stays.ensures ∙ c.if-not-stays.true))

pub returns : goal.returns
returns c =
    let all : c.loop-node.node ≡ length (graph_of c.args.before.now) = omega (arith, nodes_are c.args.before.now) in
    sym (subst (λ k. list_all (λ user. row_stays (graph_of c.args.before.now) (graph_of c.args.after.now) user (successors_of (graph_of c.args.rows.now) user)) (range_with_len 0 k) ≡ true) all c.loop-node.invariant)
