use Rattle.rev_trace.proofs.LineLemmas.{said-have-stamps}
use Rattle.rev_trace.proofs.laws.said_have_stamps.Goals as goal

pub returns : goal.returns
returns c = said-have-stamps
