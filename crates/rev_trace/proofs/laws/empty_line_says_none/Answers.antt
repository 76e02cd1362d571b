use Rattle.rev_trace.proofs.LineLemmas.{empty-line-says-none}
use Rattle.rev_trace.proofs.laws.empty_line_says_none.Goals as goal

pub returns : goal.returns
returns c = empty-line-says-none
