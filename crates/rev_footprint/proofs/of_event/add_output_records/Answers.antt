use Rattle.std.proofs.Common.{◌++◌, sym, ◌∙◌}
use Rattle.std.proofs.lemmas.List.{map-append}
use Rattle.rev_cells.specs.declared.cell.Cell.TheVariants as cell
use Rattle.rev_dirty.specs.Seen.{built_cells}
use Rattle.rev_graph.specs.Graph.{build_at, outputs_of}
use Rattle.rev_footprint.proofs.AddsLemmas.{adds-next}
use Rattle.rev_footprint.proofs.of_event.add_output_records.Goals as goal

pub returns : goal.returns
returns c =
    let build = build_at c.args.graph.now.manifest.builds c.args.edge in
    adds-next c.args.reads.now.keys c.add_built.new.reads.keys c.add_built-2.new.reads.keys (built_cells c.outputs-outputs.result.explicit.now) (built_cells c.outputs-outputs.result.implicit.now) (built_cells (outputs_of build))
    c.in_ok-add_built.ensures c.in_ok-add_built-2.ensures
    ((λ i. built_cells (c.outputs-outputs.ensures.explicit i) ++ built_cells (c.outputs-outputs.ensures.implicit i)) ∙ sym (map-append cell.Built build.explicit_outs build.implicit_outs))
