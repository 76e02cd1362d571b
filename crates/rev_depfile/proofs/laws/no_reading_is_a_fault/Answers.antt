use Rattle.rev_depfile.proofs.ReadingLemmas.{unread-refused}
use Rattle.rev_depfile.proofs.laws.no_reading_is_a_fault.Goals as goal

pub returns : goal.returns
returns c = unread-refused
