use Rattle.std.proofs.Common.{sym, subst, IsTrue, Contains}
use Rattle.std.proofs.lemmas.Map.Views.{IsSome-lookup_from_Contains, Contains-keys_from_lookup}
use Rattle.rev_cells.specs.Table.{Table}
use Rattle.rev_cells.proofs.EntryLemmas.{cell_eq_equiv, cell_eq-exact}
use Rattle.rev_cells.proofs.cells.Cells.has.Goals as goal

pub returns : goal.returns
returns c = (
  λ h. subst (λ (t : Table). Contains t.places c.args.cell.now) c.self.view_is
      (Contains-keys_from_lookup cell_eq-exact c.args.cell.now c.self.inside.entries.entries (subst IsTrue c.contains_key.ensures h)),
  λ h. subst IsTrue (sym c.contains_key.ensures)
      (IsSome-lookup_from_Contains cell_eq_equiv c.args.cell.now c.self.inside.entries.entries (subst (λ (t : Table). Contains t.places c.args.cell.now) (sym c.self.view_is) h)),
)
