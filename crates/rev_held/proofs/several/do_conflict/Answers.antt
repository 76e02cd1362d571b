use Rattle.std.proofs.Common.{true, false, Some, None, refl, sym, ◌∙◌}
use Rattle.rev_held.proofs.NameLemmas.{clash-by-cell}
use Rattle.rev_held.proofs.several.do_conflict.Goals as goal

pub returns-in-Some : goal.returns-in-Some
returns-in-Some c = λ f told.
    clash-by-cell f c.args.other.now true (Some c.in-Some._cell.now) refl (c.in-Some.ensures f told.writes told.names)
    (sym told.plan ∙ c.if-whole.false) (sym c.whole.ensures ∙ c.if-whole-2.false)

pub returns-in-None : goal.returns-in-None
returns-in-None c = λ f told.
    clash-by-cell f c.args.other.now false None refl (c.in-None.ensures f told.writes told.names)
    (sym told.plan ∙ c.if-whole.false) (sym c.whole.ensures ∙ c.if-whole-2.false)
