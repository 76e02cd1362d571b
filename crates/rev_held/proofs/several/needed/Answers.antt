use Rattle.std.proofs.Common.{◌∙◌, sym}
use Rattle.rev_held.proofs.SeveralLemmas.{none-of}
use Rattle.rev_held.proofs.several.needed.Goals as goal

pub returns-in_default : goal.returns-in_default
returns-in_default c = c.new.ensures.items ∙ none-of c.args.history.now.timeline c.args.other (sym c.in_default.ensures)
