use Rattle.rev_held.proofs.ExactLemmas.{depends-is-exact}
use Rattle.rev_held.proofs.laws.depends_is_exact.Goals as goal

pub returns : goal.returns
returns c = depends-is-exact
