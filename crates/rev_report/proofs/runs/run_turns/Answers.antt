use Rattle.std.proofs.Common.{◌≡◌, ◌+◌, false, refl, sym, ap, ◌∙◌, arith, drop, length, suc}
use Rattle.rev_script.specs.SeenTurns.{seen_turns}
use Rattle.rev_script.proofs.OutputLemmas.{goes-on, leads-end, stops-in, writes-err}
use Rattle.rev_report.proofs.RunLemmas.{after_on, count_on, of_next, seen_next, text_any, text_off, text_on}
use Rattle.rev_report.proofs.runs.run_turns.Goals as goal

pub returns-in_err-run_command-clause-text : goal.returns-in_err-run_command-clause-text
returns-in_err-run_command-clause-text g c =
    let next = seen_next c.args.turns.now c.loop-turn.turn-index c.turn-item.result c.loop-turn-test.true c.turn-item.is in
    writes-err _ _ _ _ _ c.from_residual-in_err-run_command.ensures.1
    (stops-in _ _ _ _ _ _ _ _ c.loop-turn.invariant.text (text_any _ _ _ _ _ _ next c.in_ok-command.ensures) refl c.in_err-run_command.ensures.text)

pub returns-then-branch-clause-text : goal.returns-then-branch-clause-text
returns-then-branch-clause-text g c =
    let next = seen_next c.args.turns.now c.loop-turn.turn-index c.turn-item.result c.loop-turn-test.true c.turn-item.is in
    let ends = sym c.in_ok-run_command.ensures.ends ∙ c.if-branch.true in
    leads-end _ _ _ (goes-on _ _ _ _ _ _ _ _ c.loop-turn.invariant.text (text_off _ _ _ _ _ _ next c.in_ok-command.ensures ends) refl c.in_ok-run_command.ensures.text)

pub loop-turn-preserved : goal.loop-turn-preserved
loop-turn-preserved g c =
    let next = seen_next c.args.turns.now c.loop-turn.turn-index c.turn-item.result c.loop-turn-test.true c.turn-item.is in
    let stays = sym c.in_ok-run_command.ensures.ends ∙ c.if-branch.false in
    let one = count_on _ _ _ _ _ _ _ next c.in_ok-command.ensures stays c.in_ok-run_command.ensures.after in record {
      text = goes-on _ _ _ _ _ _ _ _ c.loop-turn.invariant.text (text_on _ _ _ _ _ _ _ next c.in_ok-command.ensures stays c.in_ok-run_command.ensures.after) refl c.in_ok-run_command.ensures.text;
      after = sym (after_on _ _ _ _ _ _ _ next c.in_ok-command.ensures stays c.in_ok-run_command.ensures.after) ∙ c.loop-turn.invariant.after;
      taken = omega (arith, one, c.loop-turn.invariant.taken);
      count = ap (λ n. n + 1) c.loop-turn.invariant.count;
      lanes = c.in_ok-run_command.ensures.lanes ∙ c.loop-turn.invariant.lanes;
      of_lanes = (of_next _ _ _ _ next c.loop-turn.invariant.of_lanes).1;
    }
