use Rattle.std.proofs.Common.{◌++◌, sym, ◌∙◌}
use Rattle.std.proofs.lemmas.List.{map-append}
use Rattle.rev_cells.specs.declared.cell.Cell.TheVariants as cell
use Rattle.rev_dirty.specs.Seen.{stamp_cells}
use Rattle.rev_graph.specs.Graph.{build_at, outputs_of}
use Rattle.rev_footprint.proofs.AddsLemmas.{adds-next}
use Rattle.rev_footprint.proofs.of_event.add_output_stamps.Goals as goal

pub returns : goal.returns
returns c =
    let build = build_at c.args.graph.now.manifest.builds c.args.edge in
    adds-next c.args.reads.now.keys c.add_stamps.new.reads.keys c.add_stamps-2.new.reads.keys (stamp_cells c.outputs-outputs.result.explicit.now) (stamp_cells c.outputs-outputs.result.implicit.now) (stamp_cells (outputs_of build))
    c.in_ok-add_stamps.ensures c.in_ok-add_stamps-2.ensures
    ((λ i. stamp_cells (c.outputs-outputs.ensures.explicit i) ++ stamp_cells (c.outputs-outputs.ensures.implicit i)) ∙ sym (map-append cell.Stamp build.explicit_outs build.implicit_outs))
