use Rattle.std.proofs.Common.{◌++◌, ◌∷◌, [], ap, ◌∙◌}
use Rattle.rev_cells.specs.declared.cell.Cell.TheVariants as cell
use Rattle.rev_footprint.proofs.WritesLemmas.{marks-next}
use Rattle.rev_footprint.proofs.writes.plan_writes.Goals as goal

pub loop-edge-preserved : goal.loop-edge-preserved
loop-edge-preserved c = c.in_ok-push.ensures.items ∙ ap (λ cs. cs ++ cell.Mark c.loop-edge.edge ∷ []) c.loop-edge.invariant ∙ marks-next c.loop-edge.edge
