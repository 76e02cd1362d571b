use Rattle.rev_patched.proofs.PatchedLemmas.{backwards-is-faulty}
use Rattle.rev_patched.proofs.laws.backwards_is_faulty.Goals as goal

pub returns : goal.returns
returns c = backwards-is-faulty
