use Rattle.std.proofs.Common.{Contains, inr, sym, subst, ◌∙◌, true≢false}
use Rattle.std.proofs.lemmas.List.Elements.{Contains-push}
use Rattle.rev_cells.proofs.cells.Cells.reserve.Goals as goal

pub add_place-requires : goal.add_place-requires
add_place-requires c = λ h. true≢false (sym (c.has.ensures.1 h) ∙ c.if-has.false)

pub returns-clause-present : goal.returns-clause-present
returns-clause-present c = λ h. absurd (true≢false (sym (c.has.ensures.1 h) ∙ c.if-has.false))

pub returns-clause-added : goal.returns-clause-added
returns-clause-added c = inr c.in_ok-add_place.ensures.added

pub returns-clause-has : goal.returns-clause-has
returns-clause-has c = subst (λ ks. Contains ks c.args.cell.now) (sym c.in_ok-add_place.ensures.added) (Contains-push c.args.self.now.places c.args.cell.now)
