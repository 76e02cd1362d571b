use Rattle.std.proofs.Common.{◌∙◌}
use Rattle.rev_ranks.specs.Graph.{graph_of}
use Rattle.rev_waits.proofs.WaitLemmas.{marked-reaches, roots-are}
use Rattle.rev_unlisted.proofs.covering.reached.Goals as goal

pub returns : goal.returns
returns c = record {
  each = c.in_ok-marks.ensures.length_is;
  exact =
      marked-reaches (graph_of c.args.steps.now) c.args.node c.deref.result.now c.in_ok-marks.marks.items
      (c.deref.ensures.value ∙ roots-are c.args.steps.now c.args.node c.index-steps-node.result c.requires.node c.index-steps-node.is) c.in_ok-marks.ensures;
}
