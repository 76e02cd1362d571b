use Rattle.rev_patched.proofs.PatchedLemmas.{orders-wait}
use Rattle.rev_patched.proofs.laws.orders_wait.Goals as goal

pub returns : goal.returns
returns c = orders-wait
