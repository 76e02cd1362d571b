use Rattle.std.proofs.Common.{◌++◌, ℕ, List, ap, ◌∙◌}
use Rattle.rev_certainty.specs.Sayings.{says_certain}
use Rattle.rev_certainty.proofs.SayingLemmas.{words-say}
use Rattle.rev_certainty.proofs.saying.first_lines.Goals as goal

pub returns : goal.returns
returns c = λ more.
    ap (λ (text : List ℕ). says_certain (text ++ more)) c.in_ok-text.ensures.ok
    ∙ words-say c.args.certainty c.args.why.now c.args.replayed more
