use Rattle.std.proofs.Common.{ℕ, sym, subst, ◌∙◌}
use Rattle.std.specs.Prelude.{is_some}
use Rattle.std.specs.Global.{Vec}
use Rattle.rev_verdicts.specs.Asked.{Says}
use Rattle.rev_verdicts.proofs.WrittenLemmas.{status-four, status-zero}
use Rattle.rev_verdicts.proofs.certifying.verdict_written.Goals as goal

pub returns : goal.returns
returns c =
    let w = c.in_ok-written.written in
    let choice = c.args.wish.choice in
    record {
      text = subst (λ (text : Vec ℕ). Says c.args.wish.form text.items (is_some c.args.verdict.now.certainty)) (sym c.in_ok-written.ensures.text) c.in_ok-text.ensures;
      status = λ certain. status-zero choice.writes c.status-code.result w.status c.in_ok-written.ensures.status (c.status-code.ensures.certain certain);
      otherwise = λ not none. status-four choice.writes (is_some choice.baseline) c.status-code.result w.status c.in_ok-written.ensures.status none
          (c.status-code.ensures.otherwise not (c.has_baseline-by_baseline.ensures ∙ none));
    }
