use Rattle.std.proofs.Common.{◌∙◌, length, arith, sym}
use Rattle.rev_plan.specs.Plan.{is_running}
use Rattle.rev_plan.proofs.PlanLemmas.{find-first, find-none}
use Rattle.rev_plan.proofs.marks.first_running.Goals as goal

pub returns-then-is_running : goal.returns-then-is_running
returns-then-is_running c =
    sym (find-first (is_running c.args.cells.now.state) (length c.args.graph.now.manifest.builds) 0 c.loop-edge.edge (omega arith) (omega (arith, c.loop-edge-test.true, c.edges-edge-end.ensures.edges))
    (sym c.is_running.ensures ∙ c.if-is_running.true)
    (λ j low high. c.loop-edge.invariant j high))

pub returns : goal.returns
returns c =
    sym (find-none (is_running c.args.cells.now.state) (length c.args.graph.now.manifest.builds) 0
    (λ j low high. c.loop-edge.invariant j (omega (arith, c.loop-edge-test.false, c.edges-edge-end.ensures.edges))))
