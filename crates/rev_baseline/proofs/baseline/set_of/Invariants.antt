use Rattle.std.proofs.Common.{◌≡◌, [], drop}
use Rattle.std.specs.Prelude.{nat_eq}
use Rattle.indexmap.specs.IndexSet.{insert_all}
use Rattle.rev_baseline.proofs.baseline.set_of.Given as goal

abbrev pub invariant-loop-id : goal.invariant-loop-id
invariant-loop-id l = insert_all nat_eq l.set.keys (drop l.id-index l.ids) ≡ insert_all nat_eq [] l.ids
