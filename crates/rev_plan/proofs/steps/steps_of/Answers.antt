use Rattle.std.proofs.Common.{◌≡◌, ◌++◌, ℕ, Option, ◌∙◌, ap}
use Rattle.std.specs.List.{filter_map}
use Rattle.rev_graph.specs.Graph.{build_at}
use Rattle.rev_dirty.specs.Inputs.{producers_in}
use Rattle.rev_plan.specs.Steps.{order_only_of}
use Rattle.rev_plan.proofs.StepsLemmas.{among, order-among}
use Rattle.rev_plan.proofs.steps.steps_of.Goals as goal

pub returns : goal.returns
returns c =
    let builds = c.args.graph.now.manifest.builds in
    let build = build_at builds c.args.edge in
    let line : c.in_ok-steps.steps.items ≡ producers_in builds (build.explicit ++ build.implicit) =
    c.in_ok-steps.ensures ∙ ap (filter_map (λ (producer : Option ℕ). producer)) c.line_producers.ensures.counted ∙ among builds (build.explicit ++ build.implicit) in
    let later : c.deref.result.now ≡ producers_in builds (order_only_of c.args.along build.order_only) =
    c.deref.ensures.value ∙ c.in_ok-order_only.ensures
    ∙ ap (filter_map (λ (producer : Option ℕ). producer)) (c.order_only_along.ensures ∙ ap (order_only_of c.args.along) c.line_producers.ensures.order_only)
    ∙ order-among builds c.args.along build.order_only in
    let others = c.deref-2.ensures.value ∙ c.in_ok-validations.ensures ∙ ap (producers_in builds) c.validations_along.ensures in
    c.in_ok-extend_from_slice-3.ensures.items
    ∙ (λ i. (c.in_ok-extend_from_slice-2.ensures.items ∙ (λ j. (c.in_ok-extend_from_slice.ensures.items ∙ (λ k. line k ++ later k)) j ++ c.args.listed.now)) i ++ others i)
