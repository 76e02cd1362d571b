use Rattle.std.proofs.Common.{◌≡◌, ℕ, List, [], refl, ◌∙◌, arith}
use Rattle.rev_needless.proofs.StayLemmas.{no-row, row-is}
use Rattle.rev_needless.proofs.staying.row_of.Goals as goal

pub returns-then-node-rows : goal.returns-then-node-rows
returns-then-node-rows c = no-row c.args.rows.now c.args.node _ c.if-node-rows.true refl

pub returns : goal.returns
returns c = c.as_slice.ensures.value ∙ row-is c.args.rows.now c.args.node c.index-rows-node.result c.if-node-rows.false c.index-rows-node.is
