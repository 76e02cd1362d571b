use Rattle.std.proofs.Common.{◌≡◌, ◌<◌, ℕ, length}
use Rattle.std.specs.Prelude.{◌↔◌}
use Rattle.rev_ranks.specs.Graph.{Steps, graph_of}
use Rattle.rev_waits.specs.Waits.{Makes}
use Rattle.rev_undeclared.specs.Undeclared.{path_at}
use Rattle.rev_unlisted.proofs.making.declared_makers.Given as goal

abbrev pub invariant-loop-path : goal.invariant-loop-path
invariant-loop-path l = record {
  each : length l.lists.items ≡ l.path;
  exact : (p a : ℕ) → p < l.path → Steps (graph_of l.lists.items) p a ↔ Makes l.graph.manifest.builds a (path_at l.paths p);
}
