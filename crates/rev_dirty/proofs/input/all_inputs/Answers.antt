use Rattle.std.proofs.Common.{◌++◌, map, sym, ◌∙◌}
use Rattle.rev_graph.specs.Graph.{build_at}
use Rattle.rev_dirty.specs.declared.input.InputKind.TheVariants.{OrderOnly, Listed}
use Rattle.rev_dirty.specs.Facts.{input_facts}
use Rattle.rev_dirty.specs.Inputs.{paths_in, deps_record}
use Rattle.rev_dirty.proofs.InputLemmas.{all-facts}
use Rattle.rev_dirty.proofs.input.all_inputs.Goals as goal

pub returns : goal.returns
returns c =
    let builds = c.args.graph.now.manifest.builds in
    let state = c.args.cells.now.state in
    c.in_ok-push_inputs-2.ensures
    ∙ (λ i. c.in_ok-push_inputs.ensures i ++ map (input_facts builds state Listed) (c.requires.listed i))
    ∙ (λ i. c.in_ok-all.ensures i ++ map (input_facts builds state OrderOnly) (c.inputs.ensures.order_only i) ++ map (input_facts builds state Listed) (paths_in (deps_record state (build_at builds c.args.edge))))
    ∙ sym (all-facts builds state (build_at builds c.args.edge))
