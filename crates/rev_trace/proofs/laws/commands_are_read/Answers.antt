use Rattle.rev_trace.proofs.TextLemmas.{commands-are-read}
use Rattle.rev_trace.proofs.laws.commands_are_read.Goals as goal

pub returns : goal.returns
returns c = commands-are-read
