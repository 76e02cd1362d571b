use Rattle.rev_syntax.proofs.RefusalLemmas.{texts-stop}
use Rattle.rev_syntax.proofs.laws.texts_stop_there.Goals as goal

pub returns : goal.returns
returns c = texts-stop
