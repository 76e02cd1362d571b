use Rattle.std.proofs.Common.{◌≡◌, map}
use Rattle.std.specs.List.{range_with_len}
use Rattle.rev_suspects.specs.Bases.{basis_of}
use Rattle.rev_suspects.proofs.resting.bases.Given as goal

abbrev pub invariant-loop-edge : goal.invariant-loop-edge
invariant-loop-edge l = l.bases.items ≡ map (basis_of l.history.timeline) (range_with_len 0 l.edge)
