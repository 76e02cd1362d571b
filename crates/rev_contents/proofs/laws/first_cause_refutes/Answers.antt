use Rattle.rev_contents.proofs.Places.{first-cause-refutes}
use Rattle.rev_contents.proofs.laws.first_cause_refutes.Goals as goal

pub returns : goal.returns
returns c = first-cause-refutes
