use Rattle.std.proofs.Common.{◌≡◌, map}
use Rattle.std.specs.List.{range_with_len}
use Rattle.rev_compared.specs.Twins.{twin_of}
use Rattle.rev_compared.proofs.pairing.twins.Given as goal

-- the twins of the edges so far
abbrev pub invariant-loop-edge : goal.invariant-loop-edge
invariant-loop-edge l = l.twins.items ≡ map (twin_of l.graph.manifest.builds l.other.manifest.builds) (range_with_len 0 l.edge)
