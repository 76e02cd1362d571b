use Rattle.std.proofs.Common.{◌<◌, length, arith}
use Rattle.rev_ranks.specs.Graph.{graph_of}
use Rattle.rev_ranks.proofs.Ways.{nodes_are}
use Rattle.rev_entry_conflicts.specs.Deeds.{waits_in}
use Rattle.rev_entry_conflicts.proofs.OrderLemmas.{mark-is}
use Rattle.rev_entry_conflicts.proofs.order.waits_for.Goals as goal

pub returns : goal.returns
returns c =
    let within : c.args.edge < length c.args.order.now.waited.items = omega (arith, c.requires.edge, c.requires.order.each, nodes_are c.args.steps.now) in
    mark-is c.args.order.now.waited.items c.args.edge c.index.result.now (waits_in (graph_of c.args.steps.now) c.args.used.now.edge c.args.edge) within c.index.ensures (c.requires.order.waited_is c.args.edge)
