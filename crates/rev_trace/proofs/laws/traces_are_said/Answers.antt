use Rattle.rev_trace.proofs.SaysLemmas.{traces-are-said}
use Rattle.rev_trace.proofs.laws.traces_are_said.Goals as goal

pub returns : goal.returns
returns c = traces-are-said
