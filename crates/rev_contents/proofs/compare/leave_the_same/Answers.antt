use Rattle.std.proofs.lemmas.Slice.Eq.{slice_eq-Decides}
use Rattle.rev_contents.proofs.LeftEquality.{decides-left}
use Rattle.rev_contents.proofs.compare.leave_the_same.Goals as goal

pub returns : goal.returns
returns c = slice_eq-Decides decides-left _ _ _ c.eq.ensures
