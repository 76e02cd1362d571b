use Rattle.std.proofs.Common.{◌≡◌, ◌++◌, map}
use Rattle.std.specs.Vec.Iter.{into_iter_items}
use Rattle.rev_cells.specs.declared.cell.Cell.{Cell}
use Rattle.rev_cells.specs.declared.value.Value.{Value}
use Rattle.rev_history.proofs.access_updates.values_of.Given as goal

-- the values so far, and those of the writes that are left
abbrev pub invariant-loop-write : goal.invariant-loop-write
invariant-loop-write l =
    l.values.items ++ map (λ (w : Cell × Value). w.1) (into_iter_items l.write-iterator) ≡ map (λ (w : Cell × Value). w.1) l.fn.writes.items
