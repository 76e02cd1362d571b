use Rattle.std.proofs.Common.{◌≡◌, ◌≤◌, ℕ, Bool, List, length, arith, sym, subst, ◌∙◌}
use Rattle.rev_ranks.specs.Graph.{graph_of}
use Rattle.rev_ranks.proofs.Ways.{nodes_are}
use Rattle.rev_needless.specs.Staying.{AreReached}
use Rattle.rev_needless.proofs.StayLemmas.{no-node-stays, root-by-marks}
use Rattle.rev_needless.proofs.staying.root_stays.Goals as goal

pub returns-then-root-before : goal.returns-then-root-before
returns-then-root-before c =
    let past : length (graph_of c.args.before.now) ≤ c.args.root = omega (arith, nodes_are c.args.before.now, c.if-root-before.true) in
    sym (no-node-stays (graph_of c.args.before.now) (graph_of c.args.after.now) c.args.root c.args.commands.now past)

pub returns : goal.returns
returns c =
    root-by-marks (graph_of c.args.before.now) (graph_of c.args.after.now) c.args.root c.deref.result.now c.deref-2.result.now c.args.commands.now c.commands_still_marked-stays.result
    (subst (AreReached (graph_of c.args.before.now) c.args.root) (sym c.deref.ensures.value) c.in_ok-marks.ensures)
    (subst (AreReached (graph_of c.args.after.now) c.args.root) (sym c.deref-2.ensures.value) c.in_ok-still.ensures) c.commands_still_marked-stays.ensures
