use Rattle.std.proofs.Common.{ℕ, false, refl, sym, subst, true≢false}
use Rattle.std.specs.Prelude.{is_some}
use Rattle.std.specs.Global.{Vec}
use Rattle.rev_verdicts.specs.Asked.{Says}
use Rattle.rev_verdicts.proofs.WrittenLemmas.{status-four}
use Rattle.rev_verdicts.proofs.outdated.Outdated.written.Goals as goal

pub returns : goal.returns
returns c =
    let choice = c.args.wish.choice in
    record {
      text = subst (λ (text : Vec ℕ). Says c.args.wish.form text.items false) (sym c.in_ok-written.ensures.text) c.in_ok-text.ensures;
      status = λ certain. absurd (true≢false (sym certain));
      otherwise = λ not none. status-four choice.writes (is_some choice.baseline) 4 c.in_ok-written.written.status c.in_ok-written.ensures.status none refl;
    }
