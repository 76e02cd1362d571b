use Rattle.std.proofs.Common.{ap, sym, ◌∙◌, subst, IfSome}
use Rattle.rev_cells.specs.State.{default_or, value_at}
use Rattle.rev_cells.specs.Values.{Fits}
use Rattle.rev_cells.proofs.EntryLemmas.{value_at-state_of, fits_at}
use Rattle.rev_cells.proofs.cells.Cells.get.Goals as goal

pub returns : goal.returns
returns c = record {
  value =
      ap (default_or c.args.cell.now) c.get.ensures.value
      ∙ sym (value_at-state_of c.self.inside.entries.entries c.args.cell.now c.self.invariant.fit)
      ∙ ap (λ t. value_at t.state c.args.cell.now) c.self.view_is;
  fits = subst (λ o. IfSome o (Fits c.args.cell.now)) (sym c.get.ensures.value) (fits_at c.self.inside.entries.entries c.self.invariant.fit c.args.cell.now);
}
