use Rattle.std.proofs.Common.{refl, sym, subst, ◌∙◌}
use Rattle.std.specs.List.{AllByRecursion}
use Rattle.rev_queries.specs.Rebuilds.{EntryFits, entry_in}
use Rattle.rev_queries.proofs.CopyLemmas.{entries-all, entries-next}
use Rattle.rev_queries.proofs.ListLemmas.{all-push}
use Rattle.rev_queries.proofs.rebuild.entries_of.Goals as goal

pub loop-place-preserved : goal.loop-place-preserved
loop-place-preserved c = record {
  entries =
      entries-next c.args.cells.now.state c.args.cells.now.places c.loop-place.place c.in-Some.cell.now
      c.loop-place.entries.items c.add_cell.new.entries.items c.in-Some.ensures.place c.loop-place.invariant.entries
      c.in_ok-add_cell.ensures.entries;
  fits =
      subst (AllByRecursion EntryFits) (sym c.in_ok-add_cell.ensures.entries)
      (all-push EntryFits c.loop-place.entries.items (entry_in c.args.cells.now.state c.in-Some.cell.now)
      c.loop-place.invariant.fits c.in_ok-add_cell.ensures.fits);
}

pub returns : goal.returns
returns c = record {
  entries =
      entries-all c.args.cells.now.state c.args.cells.now.places c.loop-place.place c.loop-place.entries.items
      c.in_default.ensures.place c.loop-place.invariant.entries;
  fits = c.loop-place.invariant.fits;
  all = c.in_default.ensures.all;
}
