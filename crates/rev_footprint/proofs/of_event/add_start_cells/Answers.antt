use Rattle.std.proofs.Common.{◌∷◌, [], ◌++◌, ap}
use Rattle.rev_cells.specs.declared.cell.Cell.TheVariants as cell
use Rattle.rev_graph.specs.Graph.{pool_of}
use Rattle.rev_footprint.specs.Reads.{depth_cells, start_reads, clean_reads}
use Rattle.rev_footprint.proofs.AddsLemmas.{adds-as, adds-then}
use Rattle.rev_footprint.proofs.of_event.add_start_cells.Goals as goal

pub returns : goal.returns
unfolding start_reads clean_reads
returns c =
    let manifest = c.args.graph.now.manifest in
    let x0 = c.args.reads.now.keys in
    let x1 = c.add.new.reads.keys in
    let x2 = c.add_depth.new.reads.keys in
    let x3 = c.add_reason_cells.new.reads.keys in
    let depth = depth_cells (pool_of manifest c.args.edge) c.args.slot in
    let reasons = clean_reads manifest c.args.edge c.args.cells.now.state in
    adds-then x0 x1 x3 (cell.Halted ∷ []) (depth ++ reasons) c.in_ok-add.ensures
    (adds-then x1 x2 x3 depth reasons
    (adds-as x1 x2 (depth_cells c.pool.result c.args.slot) depth (ap (λ pool. depth_cells pool c.args.slot) c.pool.ensures) c.in_ok-add_depth.ensures)
    c.in_ok-add_reason_cells.ensures)
