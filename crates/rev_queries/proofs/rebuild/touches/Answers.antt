use Rattle.std.proofs.Common.{get_or, refl, sym, subst}
use Rattle.std.specs.List.{AllByRecursion}
use Rattle.rev_queries.specs.Rebuilds.{EntryFits, touch}
use Rattle.rev_queries.proofs.ListLemmas.{all-push, mapped-item}
use Rattle.rev_queries.proofs.rebuild.touches.Goals as goal

pub loop-path-preserved : goal.loop-path-preserved
loop-path-preserved c = record {
  touches =
      mapped-item touch c.args.paths.now c.loop-path.path-index c.path-item.result c.loop-path.entries.items
      c.add_touch.new.entries.items c.loop-path-test.true c.path-item.is c.loop-path.invariant.touches
      c.in_ok-add_touch.ensures;
  fits =
      subst (AllByRecursion EntryFits) (sym c.in_ok-add_touch.ensures)
      (all-push EntryFits c.loop-path.entries.items _ c.loop-path.invariant.fits refl);
}
