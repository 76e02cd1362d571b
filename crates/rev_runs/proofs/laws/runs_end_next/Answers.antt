use Rattle.rev_runs.proofs.LawLemmas.{runs-end-next}
use Rattle.rev_runs.proofs.laws.runs_end_next.Goals as goal

pub returns : goal.returns
returns c = runs-end-next
