use Rattle.std.proofs.Common.{sym, ap, ◌∙◌}
use Rattle.rev_causal.specs.AccessLists.{first_above}
use Rattle.rev_history.proofs.PairedLemmas.{writers_none, writers_same}
use Rattle.rev_history.proofs.access_updates.first_writer.Goals as goal

pub returns-in-Some : goal.returns-in-Some
returns-in-Some c = λ prints named shown are.
    c.first_writer.ensures
    ∙ ap (first_above c.args.number) (shown.writers c.in-Some.place ∙ sym (writers_same c.args.cells.now.places are.distinct c.in-Some.place c.args.cell.now prints named c.in-Some.ensures.some are.paired))

pub returns-in-None : goal.returns-in-None
returns-in-None c = λ prints named shown are.
    sym (ap (first_above c.args.number) (writers_none c.args.cells.now.places are.distinct c.args.cell.now prints named c.in-None.ensures.none are.paired))
