use Rattle.std.proofs.Common.{◌≡◌, ℕ, List, None, drop}
use Rattle.std.specs.List.{flat_map}
use Rattle.rev_named.specs.Named.{known_in, noted, paths_of, paths_on}
use Rattle.rev_named.proofs.components.last_components.Given as goal

abbrev pub invariant-loop-edge : goal.invariant-loop-edge
invariant-loop-edge l =
    (last : List ℕ)
    → noted l.graph.manifest.builds last (known_in l.components last) (flat_map paths_on (drop l.edge l.graph.manifest.builds))
    ≡ noted l.graph.manifest.builds last None (paths_of l.graph.manifest.builds)
