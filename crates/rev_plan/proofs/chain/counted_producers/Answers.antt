use Rattle.std.proofs.Common.{◌≡◌, ◌++◌, ℕ, List, Option, None, map, length, replicate, rules, ◌∙◌, ap}
use Rattle.std.proofs.lemmas.List.{length-map}
use Rattle.rev_graph.specs.Graph.{build_at, producer_of}
use Rattle.rev_plan.proofs.ChainLemmas.{producers-are}
use Rattle.rev_plan.proofs.chain.counted_producers.Goals as goal

pub returns : goal.returns
returns c =
    let builds = c.args.graph.now.manifest.builds in
    let build = build_at builds c.args.edge in
    let line : c.in_ok-producers.producers.items ≡ map (producer_of builds) (build.explicit ++ build.implicit) = c.in_ok-producers.ensures.items ∙ c.line_producers.ensures.counted in
    let fresh : c.in_ok-skipped.skipped.items ≡ replicate (length c.line_producers.result.1.now) None = search rules in
    let skipped = c.deref.ensures.value ∙ fresh ∙ ap (λ n. replicate n None) (ap length c.line_producers.ensures.order_only ∙ length-map build.order_only (producer_of builds)) in
    let listed = c.deref-2.ensures.value ∙ c.in_ok-listed.ensures ∙ ap (map (producer_of builds)) c.listed_inputs.ensures in
    c.in_ok-extend_from_slice-2.ensures.items ∙ (λ i. (c.in_ok-extend_from_slice.ensures.items ∙ (λ j. line j ++ skipped j)) i ++ listed i)
    ∙ producers-are builds c.args.cells.now.state c.args.edge
