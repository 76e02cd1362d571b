use Rattle.std.proofs.Common.{ap, ◌∙◌}
use Rattle.rev_certainty.specs.Sayings.{object_says_certain}
use Rattle.rev_verdicts.proofs.outdated.Outdated.json.Goals as goal

pub returns : goal.returns
returns c = ap object_says_certain c.in_ok-extend_from_slice.ensures.items ∙ c.in_ok-text.ensures c.deref-2.result.now
