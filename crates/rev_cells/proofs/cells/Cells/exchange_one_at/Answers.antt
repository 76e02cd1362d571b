use Rattle.std.proofs.Common.{ap, sym, subst, ◌∙◌}
use Rattle.rev_cells.specs.Table.{written}
use Rattle.rev_cells.specs.Values.{Fits}
use Rattle.rev_cells.proofs.cells.Cells.exchange_one_at.Goals as goal

pub swap_at-requires-clause-fits : goal.swap_at-requires-clause-fits
swap_at-requires-clause-fits c = λ k at. subst (Fits k) (sym c.replace-new.ensures.value) (c.requires.fits k at)

pub returns-clause-after : goal.returns-clause-after
returns-clause-after c = λ k at. c.swap_at.ensures.after k at ∙ ap (written c.args.self.now k) c.replace-new.ensures.value
