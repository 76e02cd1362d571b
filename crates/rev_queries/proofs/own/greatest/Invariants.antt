use Rattle.std.proofs.Common.{◌≡◌, take}
use Rattle.rev_dirty.specs.Visible.{greatest}
use Rattle.rev_queries.proofs.own.greatest.Given as goal

-- that of the stamps so far
abbrev pub invariant-loop-stamp : goal.invariant-loop-stamp
invariant-loop-stamp l = l.greatest ≡ greatest (take l.stamp-index l.stamps)
