use Rattle.std.proofs.Common.{◌≡◌, take, bytes_eq}
use Rattle.indexmap.specs.IndexSet.{insert_all}
use Rattle.rev_events.proofs.listings.add_names.Given as goal

abbrev pub invariant-loop-path : goal.invariant-loop-path
invariant-loop-path l = l.set.keys ≡ insert_all bytes_eq l.initial.set.keys (take l.path-index l.paths)
