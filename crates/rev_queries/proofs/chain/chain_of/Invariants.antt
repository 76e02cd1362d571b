use Rattle.std.proofs.Common.{◌≡◌, ◌<◌, IfSome, length}
use Rattle.rev_queries.specs.Critical.{IsChain}
use Rattle.rev_queries.proofs.chain.chain_of.Given as goal

-- the chain so far, which goes on from an edge of the graph
abbrev pub invariant-loop-place : goal.invariant-loop-place
invariant-loop-place l = record {
  chain : IsChain l.graph.manifest.builds l.runs l.links.items l.next;
  count : length l.links.items ≡ l.place;
  within : IfSome l.next (λ r. r.edge < length l.graph.manifest.builds);
}
