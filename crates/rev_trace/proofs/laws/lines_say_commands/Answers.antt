use Rattle.rev_trace.proofs.GrammarLemmas.{lines-say-commands}
use Rattle.rev_trace.proofs.laws.lines_say_commands.Goals as goal

pub returns : goal.returns
returns c = lines-say-commands
