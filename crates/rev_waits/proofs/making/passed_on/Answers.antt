use Rattle.std.proofs.Common.{◌≡◌, ℕ, [], true, sym, ap, ◌∙◌, if◌then◌else◌}
use Rattle.std.specs.List.{filter_map}
use Rattle.std.specs.Global.{Vec}
use Rattle.rev_graph.specs.Graph.{build_at, inputs_of, producer_of}
use Rattle.rev_waits.specs.Waits.{passes_on}
use Rattle.rev_waits.proofs.WaitLemmas.{among-are, ok-more}
use Rattle.rev_waits.proofs.making.passed_on.Goals as goal

pub returns-then-is_phony : goal.returns-then-is_phony
returns-then-is_phony c =
    let builds = c.args.graph.now.manifest.builds in
    let build = build_at builds c.args.edge in
    let phony : build.phony ≡ true = sym c.is_phony.ensures ∙ c.if-is_phony.true in
    ok-more (λ (edges : Vec ℕ). edges.items ≡ filter_map (λ producer. producer) c.producers.result.now) (λ (edges : Vec ℕ). edges.items ≡ passes_on builds build)
    (λ edges are. are ∙ ap (filter_map (λ producer. producer)) c.producers.ensures ∙ among-are builds build ∙ ap (λ b. if b then filter_map (producer_of builds) (inputs_of build) else []) (sym phony))
    c.edges_among.result c.edges_among.ensures
