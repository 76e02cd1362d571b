use Rattle.std.proofs.Common.{◌∙◌, sym}
use Rattle.rev_held.proofs.SeveralLemmas.{none-on}
use Rattle.rev_held.proofs.several.dependents.Goals as goal

pub returns-in_default : goal.returns-in_default
returns-in_default c = c.new.ensures.items ∙ none-on c.args.history.now.timeline c.args.one (sym c.in_default.ensures)
