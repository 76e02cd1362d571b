use Rattle.rev_races.proofs.Waiting.{starts-wait}
use Rattle.rev_patched.proofs.laws.user_comes_first.Goals as goal

pub returns : goal.returns
returns c = λ old user maker t before later n e provoked is opened events starts.
    (starts-wait t before later n e user maker is opened events starts provoked.waits).0
