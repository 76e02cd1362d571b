use Rattle.std.proofs.Common.{◌≡◌, ℕ, List, drop}
use Rattle.rev_named.specs.Named.{known_in, noted}
use Rattle.rev_named.proofs.components.LastComponents.add_all.Given as goal

abbrev pub invariant-loop-path : goal.invariant-loop-path
invariant-loop-path l =
    (last : List ℕ)
    → noted l.graph.manifest.builds last (known_in l.self last) (drop l.path-index l.paths)
    ≡ noted l.graph.manifest.builds last (known_in l.initial.self last) l.paths
