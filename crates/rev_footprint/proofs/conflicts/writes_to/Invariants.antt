use Rattle.std.proofs.Common.{◌≡◌, false, take}
use Rattle.std.specs.List.{list_any}
use Rattle.rev_footprint.specs.Value.{names}
use Rattle.rev_footprint.proofs.conflicts.writes_to.Given as goal

abbrev pub invariant-loop-place : goal.invariant-loop-place
invariant-loop-place g l =
    list_any (names (g.G.HasCells.footprint l.other)) (take l.place (g.F.HasCells.footprint l.one).writes) ≡ false
