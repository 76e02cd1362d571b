use Rattle.std.proofs.Common.{◌≡◌, None, length, replicate, rules, ◌∙◌}
use Rattle.rev_graph.specs.Graph.{producer_of}
use Rattle.rev_dirty.proofs.ListLemmas.{none-given}
use Rattle.rev_dirty.proofs.dirtiness.listed_producers.Goals as goal

pub returns-then-are_sources : goal.returns-then-are_sources
returns-then-are_sources c =
    let fresh : c.in_ok-none.none.items ≡ replicate (length c.args.listed.now) None = search rules in
    fresh ∙ none-given (producer_of c.args.graph.now.manifest.builds) c.args.listed.now (c.requires c.if-are_sources.true)
