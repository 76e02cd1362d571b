use Rattle.std.proofs.Common.{◌∙◌, ap, sym}
use Rattle.rev_events.specs.Refusal.{depth_in_use}
use Rattle.rev_events.proofs.SlotLemmas.{resize-bad, resize-lost}
use Rattle.rev_events.proofs.pools.resize_refusal.Goals as goal

pub returns-then-not-is_resizable : goal.returns-then-not-is_resizable
returns-then-not-is_resizable c =
    sym (resize-bad c.args.graph.now.manifest c.args.pool c.args.depth c.args.cells.now.state c.present_depth.result c.is_resizable.result c.present_depth.ensures c.is_resizable.ensures
    c.if-not-is_resizable.true)

pub returns-in-Some : goal.returns-in-Some
returns-in-Some c =
    sym (resize-lost c.args.graph.now.manifest c.args.pool c.args.depth c.slots_lost.result.start c.slots_lost.result.end c.args.cells.now.state c.present_depth.result c.is_resizable.result c.first_held.result
    c.present_depth.ensures c.is_resizable.ensures c.if-not-is_resizable.false c.slots_lost.ensures c.first_held.ensures
    ∙ ap depth_in_use c.in-Some.is)

pub returns-in-None : goal.returns-in-None
returns-in-None c =
    sym (resize-lost c.args.graph.now.manifest c.args.pool c.args.depth c.slots_lost.result.start c.slots_lost.result.end c.args.cells.now.state c.present_depth.result c.is_resizable.result c.first_held.result
    c.present_depth.ensures c.is_resizable.ensures c.if-not-is_resizable.false c.slots_lost.ensures c.first_held.ensures
    ∙ ap depth_in_use c.in-None.is)
