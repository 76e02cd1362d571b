use Rattle.std.proofs.Common.{◌≡◌, drop}
use Rattle.std.specs.Prelude.{find}
use Rattle.rev_held.specs.Dependence.{is_accessed_by}
use Rattle.rev_held.proofs.depending.first_accessed.Given as goal

abbrev pub invariant-loop-index : goal.invariant-loop-index
invariant-loop-index l = find (is_accessed_by l.footprint) l.cells ≡ find (is_accessed_by l.footprint) (drop l.index l.cells)
