use Rattle.rev_observed.specs.declared.path_set.PathRange.{PathRange}
use Rattle.rev_ranks.specs.Graph.{graph_of, successors_of}
use Rattle.rev_conflicts.specs.Tables.{AreQuiet}
use Rattle.rev_conflicts.proofs.QuietLemmas.{rest-ranges}
use Rattle.rev_conflicts.proofs.quiet.add_all_suspects.Goals as goal

pub loop-range-preserved : goal.loop-range-preserved
loop-range-preserved c =
    let d : PathRange = record { first = 0; last = 0 } in
    record {
      kept = λ n h. c.in_ok-add_suspects.ensures.kept n (c.loop-range.invariant.kept n h);
      rest =
          rest-ranges (λ n. AreQuiet c.args.graph.now.manifest.builds c.args.edges.now c.args.user (successors_of (graph_of c.args.table.now.lists.items) n)) c.args.ranges.now c.loop-range.range-index d
          c.loop-range.suspects.items c.add_suspects.new.suspects.items c.loop-range-test.true c.in_ok-add_suspects.ensures.kept c.loop-range.invariant.rest c.in_ok-add_suspects.ensures.rest;
    }
