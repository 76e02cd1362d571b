use Rattle.rev_history.proofs.OrderLemmas.{exact}
use Rattle.rev_history.proofs.laws.order_is_exact.Goals as goal

pub returns : goal.returns
returns c = exact
