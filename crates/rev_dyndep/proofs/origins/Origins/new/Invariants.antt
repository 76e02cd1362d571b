use Rattle.std.proofs.Common.{◌≡◌, ◌≤◌, ◌++◌, length, drop}
use Rattle.rev_dyndep.specs.Origins.{origins_of}
use Rattle.rev_dyndep.proofs.origins.Origins.new.Given as goal

-- the rows so far, and those of the edges that are left by the statements that are left
abbrev pub invariant-loop-build : goal.invariant-loop-build
invariant-loop-build l = record {
  within : l.place ≤ length l.stated;
  rows_are : l.rows.items ++ origins_of (drop l.place l.stated) (drop l.build-index l.plain) ≡ origins_of l.fn.stated l.fn.plain;
}
