use Rattle.rev_contents.proofs.Places.{agreeing-refute}
use Rattle.rev_contents.proofs.laws.agreeing_refute.Goals as goal

pub returns : goal.returns
returns c = agreeing-refute
