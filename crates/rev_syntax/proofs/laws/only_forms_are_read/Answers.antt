use Rattle.rev_syntax.proofs.RefusalLemmas.{only-forms}
use Rattle.rev_syntax.proofs.laws.only_forms_are_read.Goals as goal

pub returns : goal.returns
returns c = only-forms
