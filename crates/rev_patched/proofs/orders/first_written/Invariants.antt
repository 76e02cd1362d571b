use Rattle.std.proofs.Common.{◌≡◌, drop, find}
use Rattle.rev_patch.specs.Additions.{is_written}
use Rattle.rev_patched.proofs.orders.first_written.Given as goal

abbrev pub invariant-loop-path : goal.invariant-loop-path
invariant-loop-path l = find is_written (drop l.path-index l.paths) ≡ find is_written l.paths
