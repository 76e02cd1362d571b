use Rattle.std.specs.List.{list_any}
use Rattle.rev_graph.specs.Entries.{entry}
use Rattle.rev_graph.specs.Graph.{needs}
use Rattle.std.proofs.Common.{take}
use Rattle.rev_graph.proofs.EntryLemmas.{lists_more, needs_more}
use Rattle.rev_graph.proofs.steps.all_producers.Goals as goal

pub loop-edge-preserved : goal.loop-edge-preserved
loop-edge-preserved c =
    let es = c.args.table.now.entries in
    let fs = c.loop-edge.table.entries in
    let builds = c.args.edges.now in
    let i = c.loop-edge.edge-index in record {
      producers =
          lists_more es fs (λ path. list_any (needs path) (take i builds)) c.loop-edge.all.items c.push.new.self.items c.in_ok-producers_of.field-0 builds i c.edge-item.result c.edge-item.is
          c.loop-edge-test.true c.in_ok-push.ensures.items c.loop-edge.invariant.entries c.loop-edge.invariant.producers c.in_ok-producers_of.ensures.producers;
      entries = λ path.
          needs_more (entry fs path) (entry c.producers_of.new.table.entries path) (entry es path) builds i c.edge-item.result path c.edge-item.is c.loop-edge-test.true
          (c.loop-edge.invariant.entries path) (c.in_ok-producers_of.ensures.entries path);
    }
