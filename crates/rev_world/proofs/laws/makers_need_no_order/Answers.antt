use Rattle.rev_world.proofs.PremiseLemmas.{makers-need-no-order}
use Rattle.rev_world.proofs.laws.makers_need_no_order.Goals as goal

pub returns : goal.returns
returns c = makers-need-no-order
