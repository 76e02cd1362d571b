use Rattle.rev_graph.specs.Graph.{build_at}
use Rattle.rev_prompt.proofs.InputLemmas.{further-input, line-input}
use Rattle.rev_prompt.proofs.reasons.input_at.Goals as goal

pub returns-then-position-on_line : goal.returns-then-position-on_line
returns-then-position-on_line c =
    line-input _ _ _ c.args.cells.now.state (build_at c.args.graph.now.manifest.builds c.args.edge) c.args.position
    c.if-position-on_line.true c.of_two.ensures c.inputs-inputs.ensures.explicit c.inputs-inputs.ensures.implicit

pub returns : goal.returns
returns c =
    further-input _ _ _ _ _ c.args.cells.now.state (build_at c.args.graph.now.manifest.builds c.args.edge)
    c.args.position c.if-position-on_line.false c.of_two-2.ensures c.inputs-inputs.ensures.explicit
    c.inputs-inputs.ensures.implicit c.inputs-inputs.ensures.order_only c.listed_inputs-listed.ensures
