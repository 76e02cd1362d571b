use Rattle.std.proofs.Common.{ℕ, ap, ◌∙◌}
use Rattle.std.specs.Global.{Vec}
use Rattle.rev_certainty.specs.Sayings.{says_certain}
use Rattle.rev_verdicts.proofs.stating.Verdict.words.Goals as goal

pub returns : goal.returns
returns c =
    ap says_certain (ap (λ (bytes : Vec ℕ). bytes.items) c.into_bytes.ensures.value ∙ c.in_ok-push_str.ensures.bytes)
    ∙ c.in_ok-text.ensures c.deref.result.now
