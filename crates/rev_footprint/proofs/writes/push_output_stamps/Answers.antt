use Rattle.std.proofs.Common.{◌++◌, append_assoc, sym, ap, ◌∙◌}
use Rattle.std.proofs.lemmas.List.{map-append}
use Rattle.rev_cells.specs.declared.cell.Cell.TheVariants as cell
use Rattle.rev_dirty.specs.Seen.{stamp_cells}
use Rattle.rev_graph.specs.Graph.{build_at}
use Rattle.rev_footprint.proofs.writes.push_output_stamps.Goals as goal

pub returns : goal.returns
returns c =
    let build = build_at c.args.graph.now.manifest.builds c.args.edge in
    let old = c.args.writes.now.items in
    c.in_ok-push_stamps-2.ensures
    ∙ (λ i. c.in_ok-push_stamps.ensures i ++ stamp_cells (c.outputs-outputs.ensures.implicit i))
    ∙ (λ i. (old ++ stamp_cells (c.outputs-outputs.ensures.explicit i)) ++ stamp_cells build.implicit_outs)
    ∙ append_assoc old (stamp_cells build.explicit_outs) (stamp_cells build.implicit_outs)
    ∙ ap (λ cs. old ++ cs) (sym (map-append cell.Stamp build.explicit_outs build.implicit_outs))
