use Rattle.std.proofs.Common.{◌+◌, ◌∙◌, List, ap, length, sym}
use Rattle.std.specs.Global.{Vec}
use Rattle.rev_commands.specs.declared.command.Command.{Command}
use Rattle.rev_script.specs.SeenTurns.{seen_turns}
use Rattle.rev_report.proofs.RunLemmas.{of_desk}
use Rattle.rev_recording.proofs.replayed.replay.Goals as goal

pub say_turns-requires : goal.say_turns-requires
say_turns-requires c =
    of_desk c.args.desk.now.lanes c.deref.result.now c.deref-2.result.now (ap seen_turns c.deref-2.ensures.value ∙ c.in_ok-turns.ensures)
    (c.requires.lanes ∙ ap (λ (lanes : List (Vec Command)). length lanes + 1) (sym c.deref.ensures.value))
