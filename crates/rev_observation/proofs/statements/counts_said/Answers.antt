use Rattle.std.proofs.Common.{length, arith}
use Rattle.rev_fields.specs.Parts.{lent_of}
use Rattle.rev_fields.proofs.SliceLemmas.{length-lent_of}
use Rattle.rev_observation.proofs.EndLemmas.{counts-other}
use Rattle.rev_observation.proofs.statements.counts_said.Goals as goal

pub returns-in_default : goal.returns-in_default
returns-in_default c =
    counts-other (lent_of c.args.texts.now) (λ four. omega (arith, four, c.in_default.len_below, length-lent_of c.args.texts.now))
