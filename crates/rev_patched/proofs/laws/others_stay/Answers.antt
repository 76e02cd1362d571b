use Rattle.rev_patched.proofs.PatchedLemmas.{others-stay}
use Rattle.rev_patched.proofs.laws.others_stay.Goals as goal

pub returns : goal.returns
returns c = others-stay
