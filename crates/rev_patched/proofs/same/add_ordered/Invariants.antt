use Rattle.std.proofs.Common.{◌≡◌, ◌||◌, take, List, ℕ}
use Rattle.rev_manifest.specs.Names.{has_path}
use Rattle.rev_patched.specs.Orders.{ordered_paths}
use Rattle.rev_patched.proofs.same.add_ordered.Given as goal

abbrev pub invariant-loop-order : goal.invariant-loop-order
invariant-loop-order l = (path : List ℕ) → has_path l.set.keys path ≡ (has_path l.initial.set.keys path || has_path (ordered_paths (take l.order-index l.orders)) path)
