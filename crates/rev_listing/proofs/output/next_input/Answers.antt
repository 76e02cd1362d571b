use Rattle.rev_graph.specs.Graph.{build_at}
use Rattle.rev_listing.proofs.InputLemmas.{line-bytes, further-bytes}
use Rattle.rev_listing.proofs.LineLemmas.{fact-at}
use Rattle.rev_listing.proofs.output.next_input.Goals as goal

pub returns-then-position-on_line : goal.returns-then-position-on_line
returns-then-position-on_line c =
    fact-at (c.next_field-then-position-on_line).result _ _ _ _ (line-bytes _ _ _ _ c.args.cells.now.state (build_at c.args.graph.now.manifest.builds c.args.edge) c.args.position c.if-position-on_line.true c.bytes_of.ensures c.of_two.ensures c.inputs-inputs.ensures.explicit c.inputs-inputs.ensures.implicit) (c.next_field-then-position-on_line).ensures

pub returns : goal.returns
returns c =
    fact-at c.next_field-2.result _ _ _ _ (further-bytes _ _ _ _ _ _ c.args.cells.now.state (build_at c.args.graph.now.manifest.builds c.args.edge) c.args.position c.if-position-on_line.false c.bytes_of-2.ensures c.of_two-2.ensures c.inputs-inputs.ensures.explicit c.inputs-inputs.ensures.implicit c.inputs-inputs.ensures.order_only c.listed_inputs-listed.ensures) c.next_field-2.ensures
