use Rattle.std.proofs.Common.{◌≡◌, Bool, List, [], refl, ◌∙◌, arith}
use Rattle.rev_needless.proofs.WithoutLemmas.{marks-are, no-marks}
use Rattle.rev_needless.proofs.left.marks_of.Goals as goal

pub returns-then-node-gone : goal.returns-then-node-gone
returns-then-node-gone c = no-marks c.args.gone.now c.args.node _ c.if-node-gone.true refl

pub returns : goal.returns
returns c = c.as_slice.ensures.value ∙ marks-are c.args.gone.now c.args.node c.index-gone-node.result c.if-node-gone.false c.index-gone-node.is
