use Rattle.std.proofs.Common.{sym, ◌∙◌}
use Rattle.rev_graph.proofs.GraphLemmas.{producer_of-within}
use Rattle.rev_dirty.proofs.change.was_changed.Goals as goal

pub has_changed-requires-clause-edge : goal.has_changed-requires-clause-edge
has_changed-requires-clause-edge c = producer_of-within c.args.path.now c.args.graph.now.manifest.builds c.in-Some.edge (sym c.requires.producer ∙ c.in-Some.is)
