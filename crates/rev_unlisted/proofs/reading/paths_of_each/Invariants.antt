use Rattle.std.proofs.Common.{◌≡◌, ◌+◌, ◌<◌, ℕ, length}
use Rattle.std.specs.Prelude.{◌↔◌}
use Rattle.rev_ranks.specs.Graph.{Steps, graph_of}
use Rattle.rev_unlisted.specs.Found.{AreCountedAtMost, IsReadByNumber, names_of}
use Rattle.rev_unlisted.proofs.reading.paths_of_each.Given as goal

abbrev pub invariant-loop-number : goal.invariant-loop-number
invariant-loop-number l = record {
  nexts : length l.nexts.items ≡ length l.paths + 1;
  marks : AreCountedAtMost l.graph.manifest.builds (names_of l.lists) l.paths l.marks.items;
  each : length l.found.items ≡ l.number;
  exact : (number path : ℕ) → number < l.number → Steps (graph_of l.found.items) number path
      ↔ IsReadByNumber l.graph.manifest.builds l.paths l.hidden l.builds l.stronger (names_of l.lists) l.commands l.edges number path;
}
