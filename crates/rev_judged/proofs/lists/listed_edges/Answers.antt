use Rattle.rev_judged.specs.Judged.{has_list}
use Rattle.rev_races.proofs.JudgedLemmas.{mapped-more}
use Rattle.rev_judged.proofs.lists.listed_edges.Goals as goal

pub loop-edge-preserved : goal.loop-edge-preserved
loop-edge-preserved c =
    mapped-more (has_list c.args.history.now.timeline) c.loop-edge.edge c.loop-edge.marks.items c.push.new.self.items _ c.loop-edge.invariant
    c.in_ok-push.ensures.items c.lists_some.ensures
