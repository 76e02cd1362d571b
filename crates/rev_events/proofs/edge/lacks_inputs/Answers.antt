use Rattle.std.proofs.Common.{List, Option, ℕ, length, ap, ◌∙◌}
use Rattle.std.specs.Prelude.{◌==◌}
use Rattle.std.proofs.lemmas.List.{length-map}
use Rattle.rev_graph.specs.Graph.{build_at, producer_of}
use Rattle.rev_dirty.specs.Inputs.{InputValue, inputs}
use Rattle.rev_events.proofs.edge.lacks_inputs.Goals as goal

pub returns : goal.returns
returns c =
    let builds = c.args.graph.now.manifest.builds in
    c.is_empty.ensures ∙ ap (λ (ps : List (Option ℕ)). length ps == 0) (c.as_slice.ensures.value ∙ c.in_ok-all.ensures)
    ∙ ap (λ (n : ℕ). n == 0) (length-map (inputs c.args.cells.now.state (build_at builds c.args.edge)) (λ (input : InputValue). producer_of builds input.path))
