use Rattle.std.proofs.Common.{ap, map}
use Rattle.rev_cells.specs.declared.cell.Cell.TheVariants as cell
use Rattle.rev_events.specs.Pools.{present_depth, slots_between, slots_lost}
use Rattle.rev_footprint.specs.Reads.{resize_reads}
use Rattle.rev_footprint.proofs.AddsLemmas.{adds-as}
use Rattle.rev_footprint.proofs.of_event.of_resize.Goals as goal

pub returns : goal.returns
unfolding resize_reads
returns c =
    let manifest = c.args.graph.now.manifest in
    let lost = slots_lost c.args.depth (present_depth manifest c.args.cells.now.state c.args.pool) in
    adds-as c.args.reads.now.keys c.add_slots.new.reads.keys (map (cell.Slot c.args.pool) (slots_between c.slots_lost.result.start c.slots_lost.result.end)) (map (cell.Slot c.args.pool) lost)
    (ap (map (cell.Slot c.args.pool)) c.slots_lost.ensures) c.in_ok-add_slots.ensures
