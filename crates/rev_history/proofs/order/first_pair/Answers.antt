use Rattle.std.proofs.Common.{ap}
use Rattle.rev_causal.specs.OrderCheck.{pair_answer}
use Rattle.rev_history.proofs.order.first_pair.Goals as goal

pub returns-in-Some : goal.returns-in-Some
returns-in-Some c = ap pair_answer c.in-Some.ensures

pub returns-in-None : goal.returns-in-None
returns-in-None c = ap pair_answer c.in-None.ensures
