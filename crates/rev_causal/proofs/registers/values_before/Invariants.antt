use Rattle.std.proofs.Common.{◌≡◌, ◌++◌, drop}
use Rattle.rev_causal.specs.Store.{replaced}
use Rattle.rev_causal.proofs.registers.values_before.Given as goal

abbrev pub invariant-loop-write : goal.invariant-loop-write
invariant-loop-write l = l.values.items ++ replaced l.cells (drop l.write-index l.writes) ≡ replaced l.cells l.writes
