use Rattle.std.specs.declared.cmp.Reverse.{Reverse}
use Rattle.std.proofs.lemmas.List.Sorted.{IsPermutation-map}
use Rattle.rev_schedule.specs.Turns.{Turn}
use Rattle.rev_schedule.proofs.line.Line.add.Goals as goal

pub returns : goal.returns
returns c = IsPermutation-map (λ (r : Reverse Turn). r.0) _ _ c.in_ok-push.ensures.permutation
