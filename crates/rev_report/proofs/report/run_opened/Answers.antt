use Rattle.std.proofs.Common.{ap, ◌∙◌}
use Rattle.rev_script.specs.SeenTurns.{seen_turns}
use Rattle.rev_report.proofs.RunLemmas.{of_desk}
use Rattle.rev_report.proofs.report.run_opened.Goals as goal

pub run_words-requires-clause-lanes : goal.run_words-requires-clause-lanes
run_words-requires-clause-lanes g c =
    of_desk c.args.desk.now.lanes c.args.lanes.now c.deref.result.now (ap seen_turns c.deref.ensures.value ∙ c.in_ok-turns.ensures) c.requires.lanes
