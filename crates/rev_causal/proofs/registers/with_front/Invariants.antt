use Rattle.std.proofs.Common.{◌≡◌, drop}
use Rattle.rev_causal.specs.Store.{set_cells}
use Rattle.rev_causal.specs.Registers.{cells_of, cell_cmp}
use Rattle.rev_causal.proofs.registers.with_front.Given as goal

abbrev pub invariant-loop-write : goal.invariant-loop-write
invariant-loop-write l = set_cells cell_cmp (cells_of l.all.items) (drop l.write-index l.writes) ≡ set_cells cell_cmp (cells_of l.table) l.writes
