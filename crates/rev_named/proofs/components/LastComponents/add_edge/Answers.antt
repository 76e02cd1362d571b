use Rattle.rev_graph.specs.Graph.{build_at}
use Rattle.rev_named.specs.Named.{known_in}
use Rattle.rev_named.proofs.NamedLemmas.{line-noted}
use Rattle.rev_named.proofs.components.LastComponents.add_edge.Goals as goal

pub returns : goal.returns
returns c = λ last.
    let builds = c.args.graph.now.manifest.builds in
    line-noted builds last (build_at builds c.args.edge) (known_in c.args.self.now last) (known_in c.add_all.new.self last) (known_in c.add_all-2.new.self last) (known_in c.add_all-3.new.self last)
    (known_in c.add_all-4.new.self last) (known_in c.add_all-5.new.self last) (known_in c.add_all-6.new.self last)
    c.outputs-outputs.result.explicit.now c.outputs-outputs.result.implicit.now c.inputs-inputs.result.explicit.now c.inputs-inputs.result.implicit.now c.inputs-inputs.result.order_only.now c.validations.result.now
    c.outputs-outputs.ensures.explicit c.outputs-outputs.ensures.implicit c.inputs-inputs.ensures.explicit c.inputs-inputs.ensures.implicit c.inputs-inputs.ensures.order_only c.validations.ensures
    (c.in_ok-add_all.ensures last) (c.in_ok-add_all-2.ensures last) (c.in_ok-add_all-3.ensures last) (c.in_ok-add_all-4.ensures last) (c.in_ok-add_all-5.ensures last) (c.in_ok-add_all-6.ensures last)
