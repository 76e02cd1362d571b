use Rattle.std.proofs.Common.{◌++◌, ℕ, Option, ap, ◌∙◌}
use Rattle.std.specs.List.{filter_map}
use Rattle.rev_dirty.specs.Inputs.{producers_in}
use Rattle.rev_certainty.proofs.needing.needed_by.Goals as goal

pub returns : goal.returns
returns c =
    let builds = c.args.graph.now.manifest.builds in
    c.in_ok-extend_from_slice.ensures.items
    ∙ (λ i. (c.in_ok-needed.ensures ∙ ap (filter_map (λ (producer : Option ℕ). producer)) c.producers.ensures) i
    ++ (c.deref.ensures.value ∙ c.in_ok-validated.ensures ∙ ap (producers_in builds) c.validations.ensures) i)
