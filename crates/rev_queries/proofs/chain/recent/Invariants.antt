use Rattle.std.proofs.Common.{◌≡◌, length, take}
use Rattle.rev_queries.specs.Critical.{AreWithin, recent_of}
use Rattle.rev_queries.proofs.chain.recent.Given as goal

-- those of the runs so far
abbrev pub invariant-loop-run : goal.invariant-loop-run
invariant-loop-run l = record {
  recent : l.recent.items ≡ recent_of l.graph.manifest.builds l.plan (take l.run-index l.runs);
  within : AreWithin (length l.graph.manifest.builds) l.recent.items;
}
