use Rattle.std.proofs.Common.{◌≡◌, drop}
use Rattle.std.specs.FinMap.{get}
use Rattle.rev_causal.specs.Registers.{cells_of}
use Rattle.rev_causal.proofs.registers.value_in.Given as goal

abbrev pub invariant-loop-write : goal.invariant-loop-write
invariant-loop-write l = get (cells_of (drop l.write-index l.table)) l.cell ≡ get (cells_of l.table) l.cell
