use Rattle.std.proofs.Common.{◌++◌, sym, ◌∙◌, arith}
use Rattle.rev_races.proofs.EndingLemmas.{all-endings, edge-endings, no-endings}
use Rattle.rev_races.proofs.endings.output_endings.Goals as goal

pub loop-edge-init : goal.loop-edge-init
loop-edge-init c =
    no-endings c.args.graph.now.manifest.builds c.in_ok-marks.marks.items
    (sym c.in_ok-marks.marks.ok.0 ∙ c.in_ok-marks.ensures.len)

pub loop-edge-preserved : goal.loop-edge-preserved
loop-edge-preserved c =
    let outputs = c.outputs-outputs.ensures in
    edge-endings c.args.graph.now.manifest.builds c.loop-edge.marks.items c.mark_endings.new.marks.items
    c.mark_endings-in-loop-edge.new.marks.items c.loop-edge.edge c.outputs-outputs.result.explicit.now
    c.outputs-outputs.result.implicit.now (sym (λ j. outputs.explicit j ++ outputs.implicit j))
    c.mark_endings-in-loop-edge.ensures.size c.mark_endings.ensures.kept c.mark_endings-in-loop-edge.ensures.kept
    c.mark_endings.ensures.marked c.mark_endings-in-loop-edge.ensures.marked c.loop-edge.invariant

pub returns : goal.returns
returns c =
    all-endings c.args.graph.now.manifest.builds c.loop-edge.marks.items c.loop-edge.edge
    (omega (arith, c.loop-edge-test.false, c.edges-edge-end.ensures.edges)) c.loop-edge.invariant
