use Rattle.std.proofs.Common.{Option, subst}
use Rattle.std.specs.Prelude.{is_some}
use Rattle.rev_certainty.specs.declared.certainty.Certainty.{Certainty}
use Rattle.rev_verdicts.specs.Asked.{SaysExactly, has_baseline}
use Rattle.rev_verdicts.proofs.certifying.left_written.Goals as goal

pub returns : goal.returns
returns c =
    subst (λ (certainty : Option Certainty). SaysExactly (is_some certainty) c.args.wish.form (has_baseline c.args.wish.choice) c.in_ok-written.written)
    c.verdict_of-verdict.ensures c.in_ok-written.ensures
