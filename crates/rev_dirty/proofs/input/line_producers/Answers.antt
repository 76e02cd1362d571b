use Rattle.std.proofs.Common.{◌∙◌, length, take, drop}
use Rattle.rev_graph.specs.Graph.{producer_of, build_at}
use Rattle.rev_dirty.proofs.InputLemmas.{second-part, third-part}
use Rattle.rev_dirty.proofs.input.line_producers.Goals as goal

pub returns-clause-implicit : goal.returns-clause-implicit
returns-clause-implicit c =
    let build = build_at c.args.graph.now.manifest.builds c.args.edge in
    c.split_at-2.ensures.front
    ∙ (λ i. take (length (c.inputs-inputs.ensures.implicit i)) ((c.split_at.ensures.back ∙ (λ j. drop (length (c.inputs-inputs.ensures.explicit j)) (c.producers.ensures j))) i))
    ∙ second-part (producer_of c.args.graph.now.manifest.builds) build.explicit build.implicit build.order_only

pub returns-clause-order_only : goal.returns-clause-order_only
returns-clause-order_only c =
    let build = build_at c.args.graph.now.manifest.builds c.args.edge in
    c.split_at-2.ensures.back
    ∙ (λ i. drop (length (c.inputs-inputs.ensures.implicit i)) ((c.split_at.ensures.back ∙ (λ j. drop (length (c.inputs-inputs.ensures.explicit j)) (c.producers.ensures j))) i))
    ∙ third-part (producer_of c.args.graph.now.manifest.builds) build.explicit build.implicit build.order_only
