use Rattle.std.proofs.Common.{◌+◌, ◌++◌, get_or, take, refl, sym, ap, ◌∙◌}
use Rattle.std.proofs.lemmas.List.{map-append}
use Rattle.rev_cells.specs.declared.cell.Cell.TheVariants as cell
use Rattle.rev_dirty.specs.Seen.{stamp_cells}
use Rattle.rev_dirty.specs.Visible.{line_inputs}
use Rattle.rev_graph.specs.Graph.{build_at}
use Rattle.rev_footprint.specs.Behind.{stamps_behind}
use Rattle.rev_footprint.proofs.AddsLemmas.{adds-nothing, adds-then, adds-next, flat-next}
use Rattle.rev_footprint.proofs.BehindLemmas.{has-at}
use Rattle.rev_footprint.proofs.reads.add_stamps_behind.Goals as goal

pub inputs-inputs-requires : goal.inputs-inputs-requires
inputs-inputs-requires c =
    (c.requires (get_or c.args.edges.now c.loop-edge.edge-index 0) (has-at c.args.edges.now c.loop-edge.edge-index (get_or c.args.edges.now c.loop-edge.edge-index 0) c.loop-edge-test.true refl)).is_edge

pub loop-edge-init : goal.loop-edge-init
loop-edge-init c = adds-nothing c.args.reads.now.keys

pub loop-edge-preserved : goal.loop-edge-preserved
loop-edge-preserved c =
    let builds = c.args.graph.now.manifest.builds in
    let edges = c.args.edges.now in
    let i = c.loop-edge.edge-index in
    let edge = get_or edges i 0 in
    let build = build_at builds edge in
    adds-next c.args.reads.now.keys c.loop-edge.reads.keys c.add_stamps-in-loop-edge.new.reads.keys (stamps_behind builds (take i edges))
    (stamp_cells c.inputs-inputs.result.explicit.now ++ stamp_cells c.inputs-inputs.result.implicit.now) (stamps_behind builds (take (i + 1) edges))
    c.loop-edge.invariant
    (adds-then c.loop-edge.reads.keys c.add_stamps.new.reads.keys c.add_stamps-in-loop-edge.new.reads.keys (stamp_cells c.inputs-inputs.result.explicit.now) (stamp_cells c.inputs-inputs.result.implicit.now)
    c.in_ok-add_stamps.ensures c.in_ok-add_stamps-2.ensures)
    ((λ j. stamps_behind builds (take i edges) ++ (stamp_cells (c.inputs-inputs.ensures.explicit j) ++ stamp_cells (c.inputs-inputs.ensures.implicit j)))
    ∙ ap (λ cs. stamps_behind builds (take i edges) ++ cs) (sym (map-append cell.Stamp build.explicit build.implicit))
    ∙ flat-next (λ e. stamp_cells (line_inputs (build_at builds e))) edges i edge 0 c.loop-edge-test.true refl)
