use Rattle.std.proofs.Common.{◌∙◌, ap}
use Rattle.std.specs.List.{list_any}
use Rattle.std.specs.Prelude.{Bool}
use Rattle.rev_graph.specs.Graph.{build_at}
use Rattle.rev_dirty.specs.Inputs.{inputs}
use Rattle.rev_dirty.specs.Reasons.{is_rebuilt}
use Rattle.rev_dirty.proofs.ListLemmas.{any-map}
use Rattle.rev_dirty.proofs.dirtiness.has_rebuilt_by.Goals as goal

pub returns-clause-rebuilt : goal.returns-clause-rebuilt
returns-clause-rebuilt c =
    let builds = c.args.graph.now.manifest.builds in
    let state = c.args.cells.now.state in
    c.any_changed.ensures ∙ ap (list_any (λ (changed : Bool). changed)) (c.deref-2.ensures.value ∙ c.in_ok-changes.ensures.changes)
    ∙ any-map (λ (changed : Bool). changed) (is_rebuilt builds state) (inputs state (build_at builds c.args.edge))
